-- What the scan for nesting faults asks of a table, and the links that it keeps.
use Rattle.std.specs.Prelude.{◌≡◌, List, ℕ, ◌*◌, ◌≤◌, ◌<◌, length, get_or}
use Rattle.meaning.specs.Table.{end_at}

-- the words hold n nodes, at most 8,192, and none ends past them
pub record EndsWithin (w : List ℕ) (n : ℕ) : Type 0 where
  pub words : n * 5 ≤ length w
  pub few : n < 8193
  pub within : (k : ℕ) → k < n → end_at w k ≤ n

-- s lies behind node k, at most at n, and no node between the two ends later than k
pub record Passes (w : List ℕ) (n k s : ℕ) : Type 0 where
  pub after : k < s
  pub within : s ≤ n
  pub clear : (m : ℕ) → k < m → m < s → end_at w m ≤ end_at w k

-- s is the next node that ends later than k, or n
pub record EndsLater (w : List ℕ) (n k s : ℕ) : Type 0 where
  pub passes : Passes w n k s
  pub later : s < n → end_at w k < end_at w s

-- each node from `low` on has its link
pub record Linked (w : List ℕ) (n low : ℕ) (links : List ℕ) : Type 0 where
  pub size : n ≤ length links
  pub each : (k : ℕ) → low ≤ k → k < n → EndsLater w n k (get_or links k 0)

-- no cap yet: the first n + 1 places are 0
pub record NoCaps (n : ℕ) (caps : List ℕ) : Type 0 where
  pub size : n < length caps
  pub none : (m : ℕ) → m ≤ n → get_or caps m 0 ≡ 0
