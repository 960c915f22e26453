-- The lines of a value: there is at least one, and joined they are the value again; without CR they are the lines of raw text.
use Rattle.std.specs.Prelude.{◌≡◌, Bool, true, false, List, [], ◌∷◌, ℕ, eqb, if◌then◌else◌}
use Rattle.std.proofs.Math.Path.{refl}
use Rattle.std.proofs.Common.{◌∙◌, eqb-true}
use Rattle.base.specs.Bools.{or_left_false, or_right_false}
use Rattle.meaning.specs.Ascii.{line_feed, carriage_return}
use Rattle.meaning.specs.Block.{onto, lines, has, raw_lines, joined}

-- there is a line
abbrev pub Some : List (List ℕ) → Type 0
Some [] = ⊥
Some (l ∷ ls) = Unit {0}

onto_has_a_line : (b : ℕ) (ls : List (List ℕ)) → Some (onto b ls)
unfolding onto
onto_has_a_line b [] = tt
onto_has_a_line b (l ∷ ls) = tt

pub there_is_a_line : (v : List ℕ) → Some (lines v)
unfolding lines
there_is_a_line [] = tt
there_is_a_line (b ∷ v) = go (eqb b line_feed)
  where
    go : (x : Bool) → Some (if x then [] ∷ lines v else onto b (lines v))
    go true = tt
    go false = onto_has_a_line b (lines v)

joined_onto : (b : ℕ) (ls : List (List ℕ)) → joined (onto b ls) ≡ b ∷ joined ls
unfolding joined onto
joined_onto b [] = refl
joined_onto b (l ∷ []) = refl
joined_onto b (l ∷ (m ∷ ls)) = refl

joined_after_empty : (ls : List (List ℕ)) → Some ls → joined ([] ∷ ls) ≡ line_feed ∷ joined ls
unfolding joined
joined_after_empty [] o = absurd o
joined_after_empty (l ∷ ls) o = refl

pub lines_joined : (v : List ℕ) → joined (lines v) ≡ v
unfolding lines
lines_joined [] = unfold joined in refl
lines_joined (b ∷ v) = go (eqb b line_feed) refl (lines_joined v)
  where
    go : (x : Bool) → eqb b line_feed ≡ x → joined (lines v) ≡ v → joined (if x then [] ∷ lines v else onto b (lines v)) ≡ b ∷ v
    go true e ih = joined_after_empty (lines v) (there_is_a_line v) ∙ rw (ih, eqb-true b line_feed e)
    go false e ih = joined_onto b (lines v) ∙ rw ih

pub one_line : (v : List ℕ) → has line_feed v ≡ false → lines v ≡ v ∷ []
unfolding has lines
one_line [] h = refl
one_line (b ∷ v) h =
    let e = or_left_false (eqb b line_feed) (has line_feed v) h in
    rw (e, one_line v (or_right_false (eqb b line_feed) (has line_feed v) h))

pub raw_lines_without_cr : (v : List ℕ) → has carriage_return v ≡ false → raw_lines v ≡ lines v
unfolding raw_lines has lines
raw_lines_without_cr [] h = refl
raw_lines_without_cr (b ∷ v) h =
    let e = or_left_false (eqb b carriage_return) (has carriage_return v) h in
    rw (e, raw_lines_without_cr v (or_right_false (eqb b carriage_return) (has carriage_return v) h))
