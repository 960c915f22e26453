-- The text of a rule is bounded by what its parts write of their own and what its children take: each part pays for the children that it
-- writes and leaves the rest to the parts after it, so no child is paid for twice.
use Rattle.std.specs.Prelude.{◌≡◌, Bool, length, if◌then◌else◌}
use Rattle.std.proofs.Math.Bool.{true, false}
use mathlib.Core.List.{List, [], ◌∷◌, ◌++◌}
use Prim.Native.Nat.{ℕ, zero, suc, ◌+◌, ◌*◌, ◌≤◌}
use Rattle.std.proofs.Common.{le_refl}
use native.Mathlib.Omega.{arith}
use Rattle.std.proofs.Math.ListN.{length-append}
use borrow.Author.Tests.{leb-true}
use Rattle.base.specs.Bools.{and_left, and_right}
use Rattle.meaning.specs.Ascii.{ascii, space as a_space}
use Rattle.meaning.specs.Tree.{Head}
use Rattle.meaning.specs.Settings.{Settings, deeper, on_single_line, new_line_or_space as line_or_space}
use Rattle.meaning.specs.Children.{Class, rest, run, past}
use Rattle.meaning.specs.Rules.{Lines, as_here, single_line, single_line_unless_marked, Part, tok, words, text, literal, space, new_line_or_space, one, spaced, separated, comma_separated, curly_brackets, if_next, if_text, if_variant}
use Rattle.meaning.specs.Layout.{Child, child_in, each, in_braces, in_commas, any_marked, lines_of, first_said, part_text, part_rest, part_skip, said}
use Rattle.text_bound.specs.Rules.{is_short, is_brief, are_brief, word_is_short}
use Rattle.text_bound.specs.Pieces.{ample, Within, new_line_is_short, line_or_space_is_short, literal_is_short}

-- ---- children

-- at levels up to l the children take at most n bytes, with what is written around each
pub data Held (l : ℕ) : List Child → ℕ → Type 0 where
  none : {n : ℕ} → Held l [] n
  more : {r : Child} {rs : List Child} {n : ℕ} (b m : ℕ)
      → ((s : Settings) → Within l s → length (r.said s) + ample ≤ b)
      → Held l rs m
      → b + m ≤ n
      → Held l (r ∷ rs) n

-- of n bytes, some are for these children and the rest for those
record Split (l : ℕ) (these those : List Child) (n : ℕ) : Type 0 where
  used : ℕ
  left : ℕ
  these_held : Held l these used
  those_held : Held l those left
  sum : used + left ≤ n

module _ {l : ℕ} (c : Class) where
  -- the leading children of a class, and what follows them
  run_and_past : {rs : List Child} {n : ℕ} → Held l rs n → Split l (run child_in c rs) (past child_in c rs) n
  unfolding run past
  run_and_past {n} none = record { used = 0; left = n; these_held = none; those_held = none; sum = omega arith }
  run_and_past {n} (more {r} {rs} b m f h k) = go (child_in c r) (run_and_past h)
    where
      go : (x : Bool) → Split l (run child_in c rs) (past child_in c rs) m
          → Split l (if x then r ∷ run child_in c rs else []) (if x then past child_in c rs else r ∷ rs) n
      go true p = record {
        used = b + p.used;
        left = p.left;
        these_held = more b p.used f p.these_held (le_refl (b + p.used));
        those_held = p.those_held;
        sum = omega (arith, p.sum);
      }
      go false p = record { used = 0; left = n; these_held = none; those_held = more b m f h k; sum = omega arith }

module _ {l : ℕ} {s : Settings} where
  -- what stands before each child is paid with the child
  each_bound : (before : List ℕ) → length before ≤ ample → Within l s → {rs : List Child} {n : ℕ} → Held l rs n → length (each before s rs) ≤ n
  unfolding each
  each_bound before a w none = omega arith
  each_bound before a w (more {r} {rs} b m f h k) =
      simp length-append (omega (arith, f s w, each_bound before a w h))

-- ---- lists of children; l is the level inside them

comma_or_nothing : (b : Bool) → length (if b then ascii "," else []) ≤ 1
comma_or_nothing true = omega arith
comma_or_nothing false = omega arith

module _ {l : ℕ} (low : l ≤ 129) (s : Settings) (inner : Within l (deeper s)) where
  outer : Within l s
  outer = record { prefix = inner.prefix; level = omega (arith, inner.level) }

  braces_bound : {rs : List Child} {n : ℕ} → Held l rs n → length (in_braces s rs) ≤ n + ample
  unfolding in_braces
  braces_bound none = omega arith
  braces_bound (more {r} {rs} b m f h k) =
      let line = line_or_space_is_short low inner in
      let others = each_bound (line_or_space (deeper s)) (omega arith) inner h in
      simp length-append (omega (arith, f (deeper s) inner, line_or_space_is_short low outer))

  commas_bound : (left right : List ℕ) → length left ≤ 40 → length right ≤ 40 → {rs : List Child} {n : ℕ} → Held l rs n
      → length (in_commas s left right rs) ≤ n + ample
  unfolding in_commas
  commas_bound left right a c none = simp length-append (omega arith)
  commas_bound left right a c (more {r} {rs} b m f h k) =
      let line = line_or_space_is_short low inner in
      let others = each_bound (ascii "," ++ line_or_space (deeper s)) (simp length-append (omega arith)) inner h in
      simp length-append (omega (
        arith,
        new_line_is_short low inner,
        f (deeper s) inner,
        comma_or_nothing s.breaks,
        new_line_is_short low outer,
      ))

  on_lines : (x : Lines) (rs : List Child) → Within l (deeper (lines_of x s rs))
  unfolding lines_of
  on_lines as_here rs = inner
  on_lines single_line rs = record { prefix = inner.prefix; level = inner.level }
  on_lines single_line_unless_marked rs = go (any_marked rs)
    where
      go : (b : Bool) → Within l (deeper (if b then s else on_single_line s))
      go true = inner
      go false = record { prefix = inner.prefix; level = inner.level }

-- ---- a part

-- of n bytes for the children, and as many as a part may write of its own, so many are left for the children that it leaves
record Pays (l : ℕ) (t : List ℕ) (rest : List Child) (n : ℕ) : Type 0 where
  left : ℕ
  rest_held : Held l rest left
  sum : length t + left ≤ n + ample

module _ {l : ℕ} {t : List ℕ} where
  -- a part that writes no child
  own : {rs : List Child} {n : ℕ} → length t ≤ ample → Held l rs n → Pays l t rs n
  own {n} a h = record { left = n; rest_held = h; sum = omega arith }

  -- a part that writes a run of children
  spent : {these those : List Child} {n : ℕ} → (p : Split l these those n) → length t ≤ p.used + ample → Pays l t those n
  spent p a = record { left = p.left; rest_held = p.those_held; sum = omega (arith, p.sum) }

module _ {l : ℕ} (low : l ≤ 129) (s : Settings) (inner : Within l (deeper s)) (h : Head) (small : length h.text ≤ 65536) where
  one_pays : {rs : List Child} {n : ℕ} → (c : Class) → Held l rs n → Pays l (first_said s rs) (rest child_in rs) n
  one_pays c none = own (omega arith) none
  one_pays c (more {r} b m f g k) = record { left = m; rest_held = g; sum = omega (arith, f s (outer low s inner)) }

  part_pays : (p : Part) → is_brief p ≡ true → {rs : List Child} {n : ℕ} → Held l rs n → Pays l (part_text s h p rs) (part_rest p rs) n
  unfolding part_text part_rest
  part_pays (tok t) b g = own (omega (arith, leb-true (length t) 40 b)) g
  part_pays (words ts) b g = own (omega (arith, word_is_short ts h.variant b)) g
  part_pays text b g = own (omega arith) g
  part_pays (literal d) b g = own (literal_is_short low (outer low s inner) d h.text small) g
  part_pays space b g = own (omega arith) g
  part_pays new_line_or_space b g = own (omega (arith, line_or_space_is_short low (outer low s inner))) g
  part_pays (one c) b g = one_pays c g
  part_pays (spaced c) b g =
      let p = run_and_past c g in
      spent p (omega (arith, each_bound (a_space ∷ []) (omega arith) (outer low s inner) p.these_held))
  part_pays (separated t c) b g =
      let p = run_and_past c g in
      let a = leb-true (length t) 40 b in
      spent p (omega (arith, each_bound (a_space ∷ (t ++ (a_space ∷ []))) (simp length-append (omega arith)) (outer low s inner) p.these_held))
  part_pays (comma_separated x left right c) b {rs} g =
      let p = run_and_past c g in
      let a = leb-true (length left) 40 (and_left _ _ b) in
      let d = leb-true (length right) 40 (and_right (is_short left) _ b) in
      spent p (commas_bound low (lines_of x s (run child_in c rs)) (on_lines low s inner x (run child_in c rs)) left right a d p.these_held)
  part_pays (curly_brackets c) b g = let p = run_and_past c g in spent p (braces_bound low s inner p.these_held)
  part_pays (if_next c n) b g = own (omega arith) g
  part_pays (if_text n) b g = own (omega arith) g
  part_pays (if_variant n) b g = own (omega arith) g

  -- ---- the parts of a rule, the first k left out

  pub said_bound : (k : ℕ) (ps : List Part) → are_brief ps ≡ true → {rs : List Child} {n : ℕ} → Held l rs n → length (said s h k ps rs) ≤ n + length ps * ample
  unfolding said
  said_bound k [] b g = omega arith
  said_bound (suc k) (p ∷ ps) b g = omega (arith, said_bound k ps (and_right (is_brief p) _ b) g)
  said_bound zero (p ∷ ps) b {rs} g =
      let a = part_pays p (and_left _ _ b) g in
      let later = said_bound (part_skip h p rs) ps (and_right (is_brief p) _ b) a.rest_held in
      simp length-append (omega (arith, a.sum))
