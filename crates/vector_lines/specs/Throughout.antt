-- Memory that holds one byte throughout.
use Rattle.std.specs.Prelude.{Bool, ◌&&◌, List, ℕ, ◌==◌, nat_eq, length, drop}
use Rattle.std.specs.List.{list_all, starts_with}

abbrev pub all_are : ℕ → List ℕ → Bool
all_are byte s = list_all (λ b. b == byte) s

abbrev pub begins_then : List ℕ → ℕ → List ℕ → Bool
begins_then bytes byte s = starts_with nat_eq s bytes && all_are byte (drop (length bytes) s)
