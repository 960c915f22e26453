-- The smallest number at which a test holds.
use Rattle.std.specs.Prelude.{ℕ, zero, suc, ◌≤◌, ◌<◌, Bool, true, false, ◌≡◌, ltb, if◌then◌else◌}

-- the smallest number below n at which the test holds; n where there is none
unfoldable pub first : (ℕ → Bool) → ℕ → ℕ
first f zero = zero
first f (suc n) = let r = first f n in if ltb r n then r else if f n then n else suc n

-- the test holds at some number below n
unfoldable pub some : (ℕ → Bool) → ℕ → Bool
unfolding first
some f n = ltb (first f n) n

-- at how many numbers below n it holds
unfoldable pub count : (ℕ → Bool) → ℕ → ℕ
count f zero = zero
count f (suc n) = let c = count f n in if f n then suc c else c

-- what `first` means, with nothing computed
pub record IsFirst (f : ℕ → Bool) (n r : ℕ) : Type 0 where
  pub within : r ≤ n
  pub before : (k : ℕ) → k < r → f k ≡ false
  pub found : r < n → f r ≡ true
