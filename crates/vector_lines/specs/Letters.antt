-- Which of two letters a field is: whether it is the second.
use Rattle.std.specs.Prelude.{Bool, true, false, cond, Option, Some, None, List, [], ◌∷◌, ℕ, ◌==◌}

abbrev pub chosen : ℕ → ℕ → List ℕ → Option Bool
chosen first second [] = None
chosen first second (b ∷ []) = cond (b == first) (Some false) (cond (b == second) (Some true) None)
chosen first second (a ∷ b ∷ s) = None
