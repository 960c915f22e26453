-- What the count of open nodes asks of a table, and of the memory that it is lent.
use Rattle.std.specs.Prelude.{◌≡◌, List, ℕ, ◌*◌, ◌≤◌, ◌<◌, length, get_or}
use Rattle.meaning.specs.Table.{end_at}

-- the words hold n nodes, at most 8,192, and each ends behind itself and not past them
pub record ProperEnds (w : List ℕ) (n : ℕ) : Type 0 where
  pub words : n * 5 ≤ length w
  pub few : n < 8193
  pub after : (k : ℕ) → k < n → k < end_at w k
  pub within : (k : ℕ) → k < n → end_at w k ≤ n

-- a count of 0 for each place at which a node can end
pub record NoneClosed (n : ℕ) (closes : List ℕ) : Type 0 where
  pub size : n < length closes
  pub zeros : (m : ℕ) → m ≤ n → get_or closes m 0 ≡ 0
