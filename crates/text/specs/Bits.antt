-- The bits of some bytes put together make a number that none of them is above.
use Rattle.std.specs.Prelude.{◌≡◌, ℕ, ◌+◌, ◌≤◌, ◌<◌}
use Rattle.std.proofs.Common.{le_trans, arith}
use Rattle.std.proofs.Math.Decide.{dec_lt}
use Rattle.std.specs.Int.Bits.{bit_or, or_add_and}
use Rattle.std.proofs.lemmas.Nat.{and_le_l, and_le_r}

left_in_or : (a b : ℕ) → a ≤ bit_or a b
left_in_or a b = omega (arith, or_add_and a b, and_le_r a b)

right_in_or : (a b : ℕ) → b ≤ bit_or a b
right_in_or a b = omega (arith, or_add_and a b, and_le_l a b)

pub none_above_or : (f : ℕ → ℕ) (i j m : ℕ) → ((k : ℕ) → i ≤ k → k < j → f k ≤ m)
    → (k : ℕ) → i ≤ k → k < j + 1 → f k ≤ bit_or m (f j)
none_above_or f i j m a k l u = go (dec_lt k j)
  where
    go : Dec (k < j) → f k ≤ bit_or m (f j)
    go (yes p) = le_trans (a k l p) (left_in_or m (f j))
    go (no p) = let e : k ≡ j = omega arith in rw e (right_in_or m (f j))
