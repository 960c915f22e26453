-- The lines of a value by the places of its line feeds: up to the first stands the first line, and behind it stand the others.
use Rattle.std.specs.Prelude.{◌≡◌, refl, Bool, true, false, List, [], ◌∷◌, ℕ, suc, ◌+◌, ◌-◌, ◌≤◌, ◌<◌, eqb, take, drop, if◌then◌else◌}
use Rattle.std.proofs.Common.{◌∙◌, drop_of_length-le, drop-drop}
use native.Mathlib.Omega.{arith}
use Rattle.std.proofs.Math.ListN.{length}
use Rattle.meaning.specs.Ascii.{line_feed}
use Rattle.meaning.specs.Block.{onto, lines}
use Rattle.pen.specs.Lists.{drop_one}
use Rattle.block.specs.Places.{up_to, byte_that, is, First}

-- the lines behind a line feed, if one is left
unfoldable behind : List ℕ → List (List ℕ)
behind [] = []
behind (b ∷ v) = lines v

lines_up_to : (v : List ℕ) → let n = up_to (byte_that (is line_feed)) v in lines v ≡ take n v ∷ behind (drop n v)
unfolding lines up_to behind
lines_up_to [] = refl
lines_up_to (b ∷ v) = go (eqb b line_feed) (lines_up_to v)
  where
    n : ℕ
    n = up_to (byte_that (is line_feed)) v

    go : (x : Bool) → lines v ≡ take n v ∷ behind (drop n v)
        → (if x then [] ∷ lines v else onto b (lines v))
        ≡ take (if x then 0 else suc n) (b ∷ v) ∷ behind (drop (if x then 0 else suc n) (b ∷ v))
    go true ih = refl
    go false ih = rw ih (unfold onto in refl)

module _ {v : List ℕ} {i e : ℕ} (f : First (byte_that (is line_feed)) v i e) where
  lines_from : lines (drop i v) ≡ take (e - i) (drop i v) ∷ behind (drop e v)
  lines_from =
      let n = up_to (byte_that (is line_feed)) (drop i v) in
      let m : n ≡ e - i = omega (arith, f.here) in
      lines_up_to (drop i v) ∙ rw (drop-drop n i v, ← f.here, m)

  pub one_line_left : e ≡ length v → lines (drop i v) ≡ take (e - i) (drop i v) ∷ []
  unfolding behind
  one_line_left h = let k : length v ≤ e = omega arith in lines_from ∙ rw (drop_of_length-le v k)

  pub more_lines_left : e < length v → lines (drop i v) ≡ take (e - i) (drop i v) ∷ lines (drop (e + 1) v)
  unfolding behind
  more_lines_left h = lines_from ∙ rw (drop_one v e h)
