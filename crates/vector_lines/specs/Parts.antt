-- Parts of a text: a line up to its LF, a field up to its space. Past the end of a text there is nothing.
use Rattle.std.specs.Prelude.{◌≡◌, refl, Bool, true, false, not, cond, List, [], ◌∷◌, ℕ, zero, suc, ◌+◌, ◌≤◌, ◌<◌, ◌==◌, length, take, drop, count_by}
use Rattle.std.specs.List.{before_first, after_first, position_or_len}
use Rattle.std.proofs.Common.{◌∙◌, arith}
use Rattle.std.proofs.lemmas.List.Sums.{sum_by-cons}

-- what stands before the first `stop`; all, where there is none
abbrev pub before : ℕ → List ℕ → List ℕ
before stop s = before_first (λ b. b == stop) s

-- what stands after the first `stop`; nothing, where there is none
abbrev pub after : ℕ → List ℕ → List ℕ
after stop s = after_first (λ b. b == stop) s

abbrev pub space : ℕ
space = 32

-- the field of this number, from 0 on; empty, where there is none
unfoldable pub field_of : ℕ → List ℕ → List ℕ
field_of zero s = before space s
field_of (suc n) s = field_of n (after space s)

-- how often a byte stands in a text
abbrev pub count_of : ℕ → List ℕ → ℕ
count_of byte s = count_by (λ b. b == byte) s

-- r is the place past the next `stop` from i on, or the end
pub record Past (s : List ℕ) (i stop r : ℕ) : Type 0 where
  pub rest : drop r s ≡ after stop (drop i s)
  pub within : r ≤ length s
  pub onward : i < length s → i < r

-- the same, a byte at a time
pub before_steps : (stop b : ℕ) (s : List ℕ) → (before stop [] ≡ []) × (before stop (b ∷ s) ≡ cond (b == stop) [] (b ∷ before stop s))
before_steps stop b s = (refl, go (b == stop))
  where
    n : ℕ
    n = position_or_len (λ x. x == stop) s

    go : (t : Bool) → take (cond (not t) (1 + n) 0) (b ∷ s) ≡ cond t [] (b ∷ take n s)
    go true = refl
    go false = let z : 1 + n ≡ suc n = omega arith in rw z

pub after_steps : (stop b : ℕ) (s : List ℕ) → (after stop [] ≡ []) × (after stop (b ∷ s) ≡ cond (b == stop) s (after stop s))
after_steps stop b s = (refl, go (b == stop))
  where
    n : ℕ
    n = position_or_len (λ x. x == stop) s

    go : (t : Bool) → drop (cond (not t) (1 + n) 0 + 1) (b ∷ s) ≡ cond t s (drop (n + 1) s)
    go true = refl
    go false = let z : 1 + n + 1 ≡ suc (n + 1) = omega arith in rw z

pub count_steps : (byte b : ℕ) (s : List ℕ) → (count_of byte [] ≡ 0) × (count_of byte (b ∷ s) ≡ cond (b == byte) (suc (count_of byte s)) (count_of byte s))
count_steps byte b s = (refl, sum_by-cons (λ x. cond (x == byte) 1 0) b s ∙ go (b == byte))
  where
    go : (t : Bool) → cond t 1 0 + count_of byte s ≡ cond t (suc (count_of byte s)) (count_of byte s)
    go true = omega arith
    go false = omega arith
