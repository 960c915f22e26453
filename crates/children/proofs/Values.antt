-- A finite rule by computing: where the values of two functions below n are computed and are one list, the functions agree there.
use Rattle.std.proofs.Common.{ℕ, zero, suc, ◌<◌, ◌≡◌, not-suc-le-zero, ⊎_elim, List, [], ◌∷◌, le_of_suc-le-suc, eq-or-lt_of_le}

-- the values of a function below n
abbrev pub values : {X : Type 0} → (ℕ → X) → ℕ → List X
values f zero = []
values f (suc n) = f n ∷ values f n

-- two functions with the same values are the same at each number
pub same : {X : Type 0} (f g : ℕ → X) (n : ℕ) → values f n ≡ values g n → (k : ℕ) → k < n → f k ≡ g k
same f g zero e k l = absurd (not-suc-le-zero l)
same f g (suc n) e k l =
    let here : f n ≡ g n = cc in
    let below : values f n ≡ values g n = cc in
    ⊎_elim (λ (q : k ≡ n). rw q here) (λ h. same f g n below k h) (eq-or-lt_of_le (le_of_suc-le-suc l))
