-- The definitions of an accepted table: what printing each of them asks, and the document's text, a definition at a time.
use Rattle.std.specs.Prelude.{◌≡◌, Bool, true, false, List, [], ◌∷◌, ◌++◌, ℕ, ◌≤◌, ◌<◌, if◌then◌else◌}
use Rattle.std.proofs.Common.{sym, ap, arith}
use Rattle.meaning.specs.Ascii.{line_feed, space}
use Rattle.meaning.specs.Settings.{Settings, settings, new_line, indentation, times}
use Rattle.meaning.specs.Table.{nodes, kind_at, end_at, head_at, forest, tree_at, tree_of}
use Rattle.meaning.specs.Refusals.{Accepted}
use Rattle.meaning.specs.Tree.{Forest, none, more, tree}
use Rattle.meaning.specs.Layout.{apart, definition_text, later_definitions, document_text}
use Rattle.pen.specs.declared.Pen.{Pen}
use Rattle.layout.specs.declared.Children.{Children}
use Rattle.layout.specs.Written.{ChildrenOf, Past}
use Rattle.pen.specs.Wrote.{Wrote, Left, left_as, left_step}
use Rattle.tree_laws.specs.Height.{height, heights}
use Rattle.tree_laws.specs.Forest.{Range, forest_none, forest_more, children_range, rest_range, tall_first, tall_rest, tall_below}
use Rattle.accepted_laws.specs.Shape.{accepted_shaped, accepted_some_node}
use Rattle.accepted_laws.specs.Depth.{accepted_height}
use Rattle.accepted_laws.specs.Inside.{inside_definitions}
use Rattle.accepted_laws.specs.Tops.{Definitions, all_definitions, is_definition, later_ones}
use Rattle.layout.specs.Jobs.{Job, inside}

-- the definitions of an accepted table from node i on
pub record Tops (w p : List ℕ) (i e : ℕ) : Type 0 where
  pub later : 0 < i
  pub range : Range w i e
  pub deep : heights (forest w p i e) ≤ 64
  pub definitions : Definitions w i e

-- ---- from one to the next

module _ {w p : List ℕ} {i e : ℕ} (ok : Accepted w p) (x : Tops w p i e) (h : i < e) where
  pub tops_inside : i < nodes w
  tops_inside = inside x.range h

  pub tops_job : {l : ℕ} → l ≤ 64 → Job w p i l
  tops_job m = record {
    inside = tops_inside;
    below = λ j a b. inside_definitions ok i x.later j a b tops_inside;
    level = omega (arith, m, x.deep, tall_first (accepted_shaped ok) x.range h);
  }

  pub tops_kind : (1 ≤ kind_at w i) × (kind_at w i ≤ 17)
  tops_kind = is_definition x.definitions h

  pub tops_on : {k : ℕ} → k ≡ end_at w i → Tops w p k e
  tops_on at = rw at on
    where
      on : Tops w p (end_at w i) e
      on = record {
        later = omega (arith, (accepted_shaped ok).above i tops_inside);
        range = rest_range (accepted_shaped ok) x.range h;
        deep = omega (arith, x.deep, tall_rest (accepted_shaped ok) x.range h);
        definitions = later_ones x.definitions h x.range ((accepted_shaped ok).above i tops_inside);
      }

  pub one_later : (s : Settings) → later_definitions s (forest w p i e) ≡ apart s ++ (definition_text s false (tree_at w p i) ++ later_definitions s (forest w p (end_at w i) e))
  unfolding later_definitions
  one_later s = ap (later_definitions s) (forest_more (accepted_shaped ok) x.range h)

pub none_later : (w p : List ℕ) {i e : ℕ} (s : Settings) → e ≤ i → later_definitions s (forest w p i e) ≡ []
unfolding later_definitions
none_later w p s h = ap (later_definitions s) (forest_none w p h)

-- the first of them
module _ {w p : List ℕ} (ok : Accepted w p) where
  tree_height : height (tree_at w p 0) ≤ 65
  unfolding tree_of
  tree_height = accepted_height ok

  pub first_tops : {at : Children} → ChildrenOf w 0 at → Tops w p at.next.0 at.end.0
  first_tops c = rw (c.next, c.end) tops
    where
      tops : Tops w p 1 (end_at w 0)
      tops = record {
        later = omega arith;
        range = children_range (accepted_shaped ok) 0 (accepted_some_node ok);
        deep = omega (arith, tall_below w p 0, tree_height);
        definitions = all_definitions ok;
      }

-- ---- the document's text

-- "LF at the end if breaks are on"
abbrev pub ending : Bool → List ℕ
ending b = if b then line_feed ∷ [] else []

module _ (b : Bool) (prefix : List ℕ) (l : ℕ) where
  pub apart_on : b ≡ true → (line_feed ∷ []) ++ (line_feed ∷ times l prefix) ≡ apart (settings b prefix l)
  unfolding apart new_line indentation
  apart_on z = rw z

  pub apart_off : b ≡ false → space ∷ [] ≡ apart (settings b prefix l)
  unfolding apart
  apart_off z = rw z

pub ending_on : (b : Bool) → b ≡ true → line_feed ∷ [] ≡ ending b
ending_on b z = rw z

pub ending_off : (b : Bool) → b ≡ false → [] ≡ ending b
ending_off b z = rw z

module _ {w p : List ℕ} (ok : Accepted w p) (s : Settings) {at : Children} (c : ChildrenOf w 0 at) where
  pub empty_document : at.end.0 ≤ at.next.0 → [] ≡ document_text s (tree_of w p)
  unfolding document_text tree_of tree_at
  empty_document h =
      let few : end_at w 0 ≤ 1 = omega (arith, c.next, c.end, h) in
      let f : forest w p 1 (end_at w 0) ≡ none = forest_none w p few in
      sym (ap (λ (g : Forest). document_text s (tree (head_at w p 0) g)) f)

  pub document_is : {r : Children} → at.next.0 < at.end.0 → Past w at r
      → definition_text s true (tree_at w p at.next.0) ++ (later_definitions s (forest w p r.next.0 r.end.0) ++ ending s.breaks) ≡ document_text s (tree_of w p)
  unfolding document_text tree_of tree_at
  document_is h z =
      let y = first_tops ok c in
      let f : forest w p 1 (end_at w 0) ≡ more (tree_at w p 1) (forest w p (end_at w 1) (end_at w 0)) =
      forest_more (accepted_shaped ok) (rw (c.next, c.end) at y.range) (omega (arith, c.next, c.end, h)) in
      rw (z.next, z.end, c.next, c.end) (sym (ap (λ (g : Forest). document_text s (tree (head_at w p 0) g)) f))

-- one more definition is written
pub later_turn : {w p : List ℕ} {at r : Children} (ok : Accepted w p) (x : Tops w p at.next.0 at.end.0) (h : at.next.0 < at.end.0) (s : Settings)
    {t : List ℕ} {o q q₁ q₂ : Pen} → Past w at r → Left o t q (later_definitions s (forest w p at.next.0 at.end.0)) → Wrote q (apart s) q₁
    → Wrote q₁ (definition_text s false (tree_at w p at.next.0)) q₂ → Left o t q₂ (later_definitions s (forest w p r.next.0 r.end.0))
later_turn {w} {p} {at} ok x h s z y a b =
    rw (z.next, z.end) (left_step (left_step (left_as y (one_later ok x h s)) a) b)
