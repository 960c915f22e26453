-- A text so many times: a turn of a loop over it, and its end.
use Rattle.std.specs.Prelude.{◌≡◌, refl, List, [], ◌++◌, ℕ, suc, ◌+◌, ◌≤◌}
use Rattle.std.proofs.Common.{arith}
use Rattle.meaning.specs.Settings.{times}

pub times_one : (n k : ℕ) (t : List ℕ) → n ≡ k + 1 → times n t ≡ t ++ times k t
unfolding times
times_one n k t h = let e : n ≡ suc k = omega arith in rw e refl

pub times_none : (n : ℕ) (t : List ℕ) → n ≤ 0 → times n t ≡ []
times_none n t h = let e : n ≡ 0 = omega arith in rw e (unfold times in refl)
