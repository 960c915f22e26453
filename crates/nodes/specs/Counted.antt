-- What the functions over a whole table ask of the number of its nodes.
use Rattle.std.specs.Prelude.{◌≡◌, List, ℕ, ◌*◌, ◌≤◌, ◌<◌, length}
use Rattle.meaning.specs.Table.{nodes}

-- n is the number of the table's nodes, at most 8,192
pub record Counted (w : List ℕ) (n : ℕ) : Type 0 where
  pub is : n ≡ nodes w
  pub words : n * 5 ≤ length w
  pub few : n < 8193
