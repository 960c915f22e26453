-- Bytes that are blanks or line ends, place by place.
use Rattle.std.specs.Prelude.{◌≡◌, true, List, ℕ, ◌≤◌, ◌<◌, length, slice_index}
use Rattle.read_block_laws.specs.TrimmedEnd.{is_white}

-- from j on
abbrev pub WhitePast : List ℕ → ℕ → Type 0
WhitePast s j = (k : ℕ) → j ≤ k → k < length s → is_white (slice_index s k) ≡ true
