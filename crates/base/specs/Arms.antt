-- The arms of a `match` on a number.
use Rattle.std.specs.Prelude.{◌≡◌, Bool, true, false, ◌||◌, List, [], ◌∷◌, ℕ, zero, suc, ◌+◌, ◌-◌, ◌≤◌, ◌<◌, eqb}
use Rattle.std.proofs.Common.{subst, arith, ne_eqb}
use Rattle.base.specs.Finite.{all, below}

-- ---- the last arm, past n numbers from `low` on

-- k is none of the n numbers from `low` on
abbrev pub NoneFrom : ℕ → ℕ → ℕ → Type 0
NoneFrom low zero k = Unit {0}
NoneFrom low (suc n) k = NoneFrom low n k × (k ≡ low + n → ⊥)

pub past_from : (low n k : ℕ) → low ≤ k → NoneFrom low n k → low + n ≤ k
past_from low zero k h r = omega arith
past_from low (suc n) k h r = omega (arith, past_from low n k h r.0, r.1)

-- so it is the one after them, where it is no greater
pub last_of : (low n k : ℕ) → low ≤ k → k ≤ low + n → NoneFrom low n k → k ≡ low + n
last_of low n k h l r = omega (arith, past_from low n k h r)

-- ---- the arm of a range

-- what is known past the arms of single numbers: the number is none of these, the last first
abbrev pub Rest : List ℕ → ℕ → Type 0
Rest [] k = Unit {0}
Rest (x ∷ xs) k = Rest xs k × (k ≡ x → ⊥)

abbrev pub member : ℕ → List ℕ → Bool
member k [] = false
member k (x ∷ xs) = eqb k x || member k xs

unless_single : (xs : List ℕ) (k : ℕ) (b : Bool) → Rest xs k → member k xs || b ≡ true → b ≡ true
unless_single [] k b r h = h
unless_single (x ∷ xs) k b r h =
    unless_single xs k b r.0 (subst (λ (t : Bool). (t || member k xs) || b ≡ true) (ne_eqb k x r.1) h)

-- a test holds at each number of the range of the n numbers from `low` on, less the numbers that have an arm of their own, because it
-- computes to true at each of them
pub arm : (test : ℕ → Bool) (low n : ℕ) (xs : List ℕ) → all (λ j. member (low + j) xs || test (low + j)) n ≡ true
    → (k : ℕ) → low ≤ k → k < low + n → Rest xs k → test k ≡ true
arm test low n xs t k a b r =
    let e : low + (k - low) ≡ k = omega arith in
    unless_single xs k (test k) r
    (subst (λ (m : ℕ). member m xs || test m ≡ true) e
    (below (λ j. member (low + j) xs || test (low + j)) n t (k - low) (omega arith)))
