-- The table of byte classes: at the place of a byte stands its class. The table that the code holds is held against this one by
-- computing all 256 of them once.
use Rattle.std.specs.Prelude.{◌≡◌, List, [], ◌∷◌, ℕ, zero, suc, ◌+◌, ◌<◌, get_or}
use Rattle.std.proofs.Common.{ap, ◌∙◌, add-zero, zero-add, add-suc, suc-add, le_of_suc-le-suc, not-suc-le-zero}
use Rattle.meaning.specs.Quoted.{class}

-- f at n numbers, from i on
unfoldable pub values : (ℕ → ℕ) → ℕ → ℕ → List ℕ
values f i zero = []
values f i (suc n) = f i ∷ values f (suc i) n

unfoldable pub classes : List ℕ
unfolding values class
classes = values class 0 256

values_at : (f : ℕ → ℕ) (i n k : ℕ) → k < n → get_or (values f i n) k 0 ≡ f (i + k)
unfolding values
values_at f i zero k h = absurd (not-suc-le-zero h)
values_at f i (suc n) zero h = rw add-zero
values_at f i (suc n) (suc k) h = rw (add-suc, ← suc-add) (values_at f (suc i) n k (le_of_suc-le-suc h))

pub class_at : (b : ℕ) → b < 256 → get_or classes b 0 ≡ class b
unfolding classes
class_at b h = values_at class 0 256 b h ∙ ap class (zero-add b)
