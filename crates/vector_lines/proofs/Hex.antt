-- Digits, numbers and pairs of digits, a byte at a time.
use Rattle.std.proofs.Common.{◌≡◌, ◌∙◌, refl, ℕ, zero, suc, ◌+◌, ◌*◌, ◌/◌, ◌%◌, ◌^◌, ◌≤◌, ◌<◌, Bool, true, false, cond, ◌&&◌, Option, Some, None, List, [], ◌∷◌, ◌++◌, length, drop, set, get_or, eqb, ltb, arith, add-one, not-suc-le-zero, drop_of_length-le, lt-ltb, le-ltb, ltb-false}
use Rattle.std.proofs.lemmas.List.Edits.{sets, sets-eq}
use Rattle.vector_lines.specs.Hex.{digit_of, is_hex, all_hex, paired, pairs}
use Rattle.vector_lines.specs.Numbers.{number_from, number_of}
use Rattle.vector_lines.proofs.Parts.{drop_one}

-- what the answer for a digit says
pub digit_none : (b : ℕ) → None ≡ cond (is_hex b) (Some (digit_of b)) None → 16 ≤ digit_of b
digit_none b = go (is_hex b) refl
  where
    go : (t : Bool) → is_hex b ≡ t → None ≡ cond t (Some (digit_of b)) None → 16 ≤ digit_of b
    go true p e = absurd (cc)
    go false p e = ltb-false (digit_of b) 16 p

pub digit_some : (b d : ℕ) → Some d ≡ cond (is_hex b) (Some (digit_of b)) None → d ≡ digit_of b
digit_some b d = go (is_hex b)
  where
    go : (t : Bool) → Some d ≡ cond t (Some (digit_of b)) None → d ≡ digit_of b
    go true e = cc
    go false e = absurd (cc)

pub digit_there : (b : ℕ) {o : Option ℕ} → is_hex b ≡ true → o ≡ cond (is_hex b) (Some (digit_of b)) None → o ≡ Some (digit_of b)
digit_there b p e = rw p at e

-- one digit of a number more, a byte that is none, a number too large, and the end
pub number_more : (s : List ℕ) (i n d : ℕ) → i < length s → d ≡ digit_of (get_or s i 0) → d < 10 → n < 10 ^ 17
    → number_from (10 * n + d) (drop (i + 1) s) ≡ number_from n (drop i s)
unfolding number_from
number_more s i n d h e k l = rw (drop_one s i h, ← e, lt-ltb d 10 k, lt-ltb n (10 ^ 17) l)

pub number_bad : (s : List ℕ) (i n d : ℕ) → i < length s → d ≡ digit_of (get_or s i 0) → 10 ≤ d → number_from n (drop i s) ≡ None
unfolding number_from
number_bad s i n d h e k = rw (drop_one s i h, ← e, le-ltb d 10 k)

pub number_large : (s : List ℕ) (i n d : ℕ) → i < length s → d ≡ digit_of (get_or s i 0) → d < 10 → 10 ^ 17 ≤ n
    → number_from n (drop i s) ≡ None
unfolding number_from
number_large s i n d h e k l = rw (drop_one s i h, ← e, lt-ltb d 10 k, le-ltb n (10 ^ 17) l)

pub number_end : (s : List ℕ) (i n : ℕ) → length s ≤ i → number_from n (drop i s) ≡ Some n
unfolding number_from
number_end s i n h = rw (drop_of_length-le s h)

pub number_empty : (s : List ℕ) → length s ≡ 0 → number_of s ≡ None
unfolding number_of
number_empty [] h = refl
number_empty (b ∷ s) h = absurd (omega arith)

pub number_begins : (s : List ℕ) → 0 < length s → number_of s ≡ number_from 0 s
unfolding number_of
number_begins [] h = absurd (omega arith)
number_begins (b ∷ s) h = refl

-- in a paired text every byte is a digit
and_last : (t u : Bool) → t && u ≡ true → u ≡ true
and_last true u h = h
and_last false u h = cc

pub and_first : (t u : Bool) → t && u ≡ true → t ≡ true
and_first true u h = refl
and_first false u h = h

paired_hex : (s : List ℕ) → paired s ≡ true → all_hex s ≡ true
unfolding paired
paired_hex s e = and_last (eqb (length s % 2) 0) _ (and_last (ltb 0 (length s)) _ e)

hex_at : (s : List ℕ) → all_hex s ≡ true → (i : ℕ) → i < length s → is_hex (get_or s i 0) ≡ true
hex_at [] e i h = absurd (not-suc-le-zero h)
hex_at (b ∷ s) e zero h = and_first (is_hex b) (all_hex s) e
hex_at (b ∷ s) e (suc i) h = hex_at s (and_last (is_hex b) (all_hex s) e) i (omega arith)

pub pairs_length : (s : List ℕ) → length (pairs s) ≡ length s / 2
unfolding pairs
pairs_length [] = refl
pairs_length (a ∷ []) = refl
pairs_length (a ∷ b ∷ s) = omega (arith, pairs_length s)

pair_at : (s : List ℕ) (n : ℕ) → 2 * n + 1 < length s
    → get_or (pairs s) n 0 ≡ 16 * digit_of (get_or s (2 * n) 0) + digit_of (get_or s (2 * n + 1) 0)
unfolding pairs
pair_at [] n h = absurd (not-suc-le-zero h)
pair_at (a ∷ []) n h = absurd (omega arith)
pair_at (a ∷ b ∷ s) zero h = refl
pair_at (a ∷ b ∷ s) (suc n) h =
    let e : 2 * suc n ≡ suc (suc (2 * n)) = omega arith in
    let f : 2 * suc n + 1 ≡ suc (suc (2 * n + 1)) = omega arith in
    pair_at s n (omega arith) ∙ rw (f, e)

-- the pair of a number: where it stands, its digits, and its byte
module _ (s : List ℕ) (n : ℕ) (h : n < length (pairs s)) where
  pub pair_within : 2 * n + 1 < length s
  pair_within = omega (arith, pairs_length s)

  pub pair_high : paired s ≡ true → is_hex (get_or s (2 * n) 0) ≡ true
  pair_high e = hex_at s (paired_hex s e) (2 * n) (omega (arith, pairs_length s))

  pub pair_low : paired s ≡ true → is_hex (get_or s (2 * n + 1) 0) ≡ true
  pair_low e = hex_at s (paired_hex s e) (2 * n + 1) pair_within

  pub pair_byte : get_or (pairs s) n 0 ≡ 16 * digit_of (get_or s (2 * n) 0) + digit_of (get_or s (2 * n + 1) 0)
  pair_byte = pair_at s n pair_within

-- a text stored byte by byte from the front
pub store_more : (d t : List ℕ) (i v : ℕ) → i < length t → v ≡ get_or t i 0 → sets (set d i v) (i + 1) (drop (i + 1) t) ≡ sets d i (drop i t)
store_more d t i v h e = rw (e, drop_one t i h, add-one)

pub store_end : (d t : List ℕ) (i : ℕ) → length t ≤ i → sets d i (drop i t) ≡ d
store_end d t i h = rw (drop_of_length-le t h)

pub store_whole : (d t : List ℕ) → length t ≤ length d → sets d 0 t ≡ t ++ drop (length t) d
store_whole d t h =
    let z : 0 + length t ≡ length t = omega arith in
    sets-eq t d 0 (omega arith) ∙ rw z
