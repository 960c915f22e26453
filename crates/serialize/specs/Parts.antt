-- What doing the parts of a node's rule asks, and what is left to ask once some are done.
use Rattle.std.specs.Prelude.{◌≡◌, Bool, true, false, List, [], ◌∷◌, ℕ, ◌+◌, ◌-◌, ◌*◌, ◌<◌, if◌then◌else◌}
use Rattle.std.proofs.Common.{refl, sym, ap, subst, ◌∙◌, arith}
use Rattle.meaning.specs.Ascii.{ascii}
use Rattle.meaning.specs.Settings.{Settings as SettingsSaid, deeper, on_single_line}
use Rattle.meaning.specs.Table.{nodes, end_at}
use Rattle.meaning.specs.Children.{Class, rest, run, past}
use Rattle.meaning.specs.Rules.{Part, as_here, single_line, single_line_unless_marked, one, spaced, comma_separated, curly_brackets}
use Rattle.meaning.specs.Layout.{child_in, first_said, each, in_braces, in_commas, lines_of, part_text, part_rest}
use Rattle.tree_laws.specs.Forest.{Shaped}
use Rattle.pen.specs.declared.Pen.{Pen}
use Rattle.layout.specs.declared.Children.{Children}
use Rattle.layout.specs.Kids.{kids}
use Rattle.layout.specs.Written.{ChildrenOf}
use Rattle.layout.specs.Jobs.{Job, Jobs, children_jobs}
use Rattle.layout.specs.Marks.{marked_run}
use Rattle.layout.specs.Did.{Walked, walked_as, Did, did_part, jobs_walked}

-- of node n, the children that are left are to be printed; items may stand a level further in
pub record Parts (w p : List ℕ) (n : ℕ) (at : Children) (l : ℕ) : Type 0 where
  pub jobs : Jobs w p at (l + 1)
  pub inside : n < nodes w

pub parts_of_lem : {w p : List ℕ} {n l : ℕ} {at : Children} → Shaped w p → Job w p n l → ChildrenOf w n at → Parts w p n at l
parts_of_lem ok j c = record { jobs = children_jobs ok j c; inside = j.inside }

pub jobs_done : {w p : List ℕ} {s : SettingsSaid} {n l : ℕ} {ps : List Part} {at : Children} {o : Pen} {r : Children} {q : Pen}
    → Jobs w p at l → Did w p s n ps at o r q → Jobs w p r l
jobs_done j x = jobs_walked j x.walked

-- a node's children are fewer nodes than the node and they
children_fewer : {w p : List ℕ} {n l : ℕ} {at : Children} → Shaped w p → Job w p n l → ChildrenOf w n at
    → at.end.0 - at.next.0 < end_at w n - n
children_fewer ok j c = omega (arith, c.next, c.end, ok.above _ j.inside)

-- a call for its parts, by a measure of eight ranks for each node
pub parts_below : {w p : List ℕ} {n l t : ℕ} {at : Children} → Shaped w p → Job w p n l → ChildrenOf w n at → 8 * (end_at w n - n) ≡ t
    → (8 * (at.end.0 - at.next.0) + 6 < t) × Parts w p n at l
parts_below ok j c m = (omega (arith, m, children_fewer ok j c), parts_of_lem ok j c)

-- ---- the levels of settings

pub jobs_deeper : {w p : List ℕ} {at : Children} (s : SettingsSaid) {r : SettingsSaid} → Jobs w p at (s.level + 1) → r ≡ deeper s → Jobs w p at r.level
jobs_deeper {w} {p} {at} s j z = subst (λ (l : ℕ). Jobs w p at l) (sym (ap (λ (x : SettingsSaid). x.level) z)) j

pub jobs_single : {w p : List ℕ} {at : Children} (s : SettingsSaid) {r : SettingsSaid} → Jobs w p at (s.level + 1) → r ≡ on_single_line s
    → Jobs w p at (r.level + 1)
jobs_single {w} {p} {at} s j z = subst (λ (l : ℕ). Jobs w p at (l + 1)) (sym (ap (λ (x : SettingsSaid). x.level) z)) j

pub jobs_lines : {w p : List ℕ} {at : Children} (s : SettingsSaid) {r : SettingsSaid} (b : Bool) → Jobs w p at (s.level + 1)
    → r ≡ (if b then s else on_single_line s) → Jobs w p at (r.level + 1)
jobs_lines {w} {p} {at} s true j z = subst (λ (l : ℕ). Jobs w p at (l + 1)) (sym (ap (λ (x : SettingsSaid). x.level) z)) j
jobs_lines s false j z = jobs_single s j z

-- ---- parts that are lists of children

module _ {w p : List ℕ} {s : SettingsSaid} {n : ℕ} {at : Children} {o : Pen} {r : Children} {q : Pen} where
  pub did_one : (c : Class) → Walked w p (first_said s (kids w p at.next.0 at.end.0)) (rest child_in (kids w p at.next.0 at.end.0)) at o r q
      → Did w p s n (one c ∷ []) at o r q
  unfolding part_text part_rest
  did_one c x = did_part (one c) refl x

  pub did_spaced : (c : Class) → Walked w p (each (ascii " ") s (run child_in c (kids w p at.next.0 at.end.0))) (past child_in c (kids w p at.next.0 at.end.0)) at o r q
      → Did w p s n (spaced c ∷ []) at o r q
  unfolding part_text part_rest
  did_spaced c x = did_part (spaced c) refl x

  pub did_braces : (c : Class) → Walked w p (in_braces s (run child_in c (kids w p at.next.0 at.end.0))) (past child_in c (kids w p at.next.0 at.end.0)) at o r q
      → Did w p s n (curly_brackets c ∷ []) at o r q
  unfolding part_text part_rest
  did_braces c x = did_part (curly_brackets c) refl x

  module _ (c : Class) {l k : List ℕ} where
    pub did_commas : Walked w p (in_commas s l k (run child_in c (kids w p at.next.0 at.end.0))) (past child_in c (kids w p at.next.0 at.end.0)) at o r q
        → Did w p s n (comma_separated as_here l k c ∷ []) at o r q
    unfolding part_text part_rest lines_of
    did_commas x = did_part (comma_separated as_here l k c) refl x

    pub did_single_line : {s' : SettingsSaid} → s' ≡ on_single_line s
        → Walked w p (in_commas s' l k (run child_in c (kids w p at.next.0 at.end.0))) (past child_in c (kids w p at.next.0 at.end.0)) at o r q
        → Did w p s n (comma_separated single_line l k c ∷ []) at o r q
    unfolding part_text part_rest lines_of
    did_single_line z x =
        did_part (comma_separated single_line l k c) refl
        (walked_as (ap (λ (v : SettingsSaid). in_commas v l k (run child_in c (kids w p at.next.0 at.end.0))) z) refl x)

    pub did_lines : {s' : SettingsSaid} (b : Bool) → b ≡ marked_run w p c at.next.0 at.end.0 → s' ≡ (if b then s else on_single_line s)
        → Walked w p (in_commas s' l k (run child_in c (kids w p at.next.0 at.end.0))) (past child_in c (kids w p at.next.0 at.end.0)) at o r q
        → Did w p s n (comma_separated single_line_unless_marked l k c ∷ []) at o r q
    unfolding part_text part_rest lines_of marked_run
    did_lines b m z x =
        did_part (comma_separated single_line_unless_marked l k c) refl
        (walked_as
        (ap (λ (v : SettingsSaid). in_commas v l k (run child_in c (kids w p at.next.0 at.end.0))) (z ∙ ap (λ (y : Bool). if y then s else on_single_line s) m))
        refl x)
