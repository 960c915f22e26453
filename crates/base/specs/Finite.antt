-- A rule of finitely many numbers, proved at all of them by one test that is computed.
use Rattle.std.specs.Prelude.{◌≡◌, refl, Bool, true, false, ◌&&◌, ℕ, zero, suc, ◌≤◌, ◌<◌}
use Rattle.std.proofs.Common.{not-suc-le-zero, arith}
use Rattle.std.proofs.Math.Decide.{dec_le}
use Rattle.base.specs.Bools.{clash}

-- the test holds at each number below n
abbrev pub all : (ℕ → Bool) → ℕ → Bool
all f zero = true
all f (suc n) = f n && all f n

pub below : (f : ℕ → Bool) (n : ℕ) → all f n ≡ true → (k : ℕ) → k < n → f k ≡ true
below f zero t k h = absurd (not-suc-le-zero h)
below f (suc n) t k h = go (f n) refl t (dec_le n k) (below f n)
  where
    go : (x : Bool) → f n ≡ x → x && all f n ≡ true → Dec (n ≤ k) → (all f n ≡ true → (j : ℕ) → j < n → f j ≡ true) → f k ≡ true
    go true e t (yes le) ih = let z : k ≡ n = omega arith in rw z e
    go true e t (no gt) ih = ih t k (omega arith)
    go false e t d ih = clash t refl
