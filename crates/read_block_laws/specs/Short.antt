-- What is written of a source is no longer than the source: an escape and an indent only shorten a line, and LF is no longer than
-- the line end that it stands for.
use Rattle.std.specs.Prelude.{◌≡◌, refl, Bool, true, false, List, [], ◌∷◌, ◌++◌, map, ℕ, zero, suc, min, ◌+◌, ◌≤◌, eqb, length, take, drop, if◌then◌else◌}
use native.Mathlib.Omega.{arith}
use Rattle.std.proofs.Math.ListN.{length-drop}
use Rattle.std.proofs.Common.{length-append}
use Rattle.meaning.specs.Ascii.{line_feed, carriage_return, triple_quote}
use Rattle.meaning.specs.Block.{onto, indent, raw_lines_after, joined}
use Rattle.read_block_laws.specs.Unescaped.{escapes, unescaped_after, unescaped, escape_is_long}
use Rattle.read_block_laws.specs.FirstLine.{line_length, lines_of, other_lines, first_line_and_others}
use Rattle.read_block_laws.specs.Outdented.{outdented, line_text}
use Rattle.read_block_laws.specs.Text.{text_of}

unescaped_after_is_short : (k : ℕ) (s : List ℕ) → k ≤ length s → length (unescaped_after k s) + k ≤ length s
unfolding unescaped_after
unescaped_after_is_short zero [] h = omega arith
unescaped_after_is_short (suc k) [] h = absurd (omega arith)
unescaped_after_is_short zero (b ∷ s) h =
    go (escapes (b ∷ s)) refl (unescaped_after_is_short 3 s) (unescaped_after_is_short 0 s (omega arith))
  where
    go : (x : Bool) → escapes (b ∷ s) ≡ x → (3 ≤ length s → length (unescaped_after 3 s) + 3 ≤ length s)
        → length (unescaped_after 0 s) + 0 ≤ length s
        → length (if x then triple_quote ++ unescaped_after 3 s else b ∷ unescaped_after 0 s) + 0 ≤ length (b ∷ s)
    go true e i j = omega (arith, i (escape_is_long b s e))
    go false e i j = omega arith
unescaped_after_is_short (suc k) (b ∷ s) h = omega (arith, unescaped_after_is_short k s (omega arith))

unescaped_is_short : (s : List ℕ) → length (unescaped s) ≤ length s
unescaped_is_short s = omega (arith, unescaped_after_is_short 0 s (omega arith))

line_text_is_short : (n : ℕ) (l : List ℕ) → length (line_text n l) ≤ length l
line_text_is_short n l = unfold outdented in
    omega (arith, unescaped_is_short (drop (min n (indent l)) l), length-drop (min n (indent l)) l)

lines_are_short : (n : ℕ) (l m : List ℕ) (ls : List (List ℕ)) → length m ≤ length l
    → length (joined (m ∷ map (line_text n) ls)) ≤ length (joined (l ∷ ls))
unfolding joined
lines_are_short n l m [] h = h
lines_are_short n l m (k ∷ ls) h =
    let r : List ℕ = line_feed ∷ joined (line_text n k ∷ map (line_text n) ls) in
    let t : List ℕ = line_feed ∷ joined (k ∷ ls) in
    omega (arith, length-append m r, length-append l t, lines_are_short n k (line_text n k) ls (line_text_is_short n k))

joined_onto : (b : ℕ) (ls : List (List ℕ)) → joined (onto b ls) ≡ b ∷ joined ls
unfolding joined onto
joined_onto b [] = refl
joined_onto b (l ∷ []) = refl
joined_onto b (l ∷ (m ∷ ls)) = refl

joined_after_empty_is_short : (n : ℕ) (ls : List (List ℕ)) → length (joined ls) ≤ n → length (joined ([] ∷ ls)) ≤ suc n
unfolding joined
joined_after_empty_is_short n [] h = omega arith
joined_after_empty_is_short n (l ∷ ls) h = omega arith

joined_lines_are_short : (cr : Bool) (s : List ℕ) → length (joined (raw_lines_after cr s)) ≤ length s
unfolding raw_lines_after
joined_lines_are_short cr [] = unfold joined in omega arith
joined_lines_are_short cr (b ∷ s) =
    go cr (eqb b line_feed) (eqb b carriage_return) (joined_lines_are_short false s) (joined_lines_are_short true s)
  where
    go : (cr x y : Bool) → length (joined (lines_of s)) ≤ length s → length (joined (raw_lines_after true s)) ≤ length s
        → length
        (joined
        (if x then (if cr then lines_of s else [] ∷ lines_of s) else if y then [] ∷ raw_lines_after true s else onto b (lines_of s)))
        ≤ length (b ∷ s)
    go true true y i j = omega arith
    go false true y i j = joined_after_empty_is_short (length s) (lines_of s) i
    go cr false true i j = joined_after_empty_is_short (length s) (raw_lines_after true s) j
    go cr false false i j = rw (joined_onto b (lines_of s)) (omega arith)

text_is_short : (n : ℕ) (s : List ℕ) → length (text_of n s) ≤ length s
unfolding text_of
text_is_short n s =
    let l : List ℕ = take (line_length s) s in
    let ls : List (List ℕ) = other_lines (drop (line_length s) s) in
    let e = first_line_and_others s in
    let j : length (joined (l ∷ ls)) ≤ length s = rw e at (joined_lines_are_short false s) in
    let k = lines_are_short n l (unescaped l) ls (unescaped_is_short l) in
    rw e (omega (arith, j, k))

-- from a place on too
pub rest_is_short : (n : ℕ) (s : List ℕ) (i : ℕ) → length (text_of n (drop i s)) ≤ length s
rest_is_short n s i = omega (arith, text_is_short n (drop i s), length-drop i s)
