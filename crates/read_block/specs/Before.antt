-- Bytes counted up to the first that a test names.
use Rattle.std.specs.Prelude.{◌≡◌, Bool, List, ℕ, ◌+◌, drop}
use Rattle.std.specs.List.{position_or_len}
use Rattle.read_block_laws.specs.Plain.{Plain}

-- n bytes stand before the first that the test names, where it names no byte that is passed over as no mark; `gives` says what the test answers
abbrev pub CountsBefore : List ℕ → (ℕ → Bool → Type 0) → ℕ → Type 0
CountsBefore s gives n =
    (test : ℕ → Bool) → ((b : ℕ) (r : Bool) → gives b r → r ≡ test b)
    → (plain : ℕ) × (Plain s 0 plain × (n ≡ plain + position_or_len test (drop plain s)))
