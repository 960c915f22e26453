-- What refusals 2 and 3 leave of a table; the children from a node on.
use Rattle.std.specs.Prelude.{◌≡◌, List, ℕ, ◌-◌, ◌*◌, ◌≤◌, ◌<◌, length}
use Rattle.meaning.specs.Kind
use Rattle.meaning.specs.Table.{words_per_node, kind_at, end_at, siblings}

-- the first n nodes are words of the table, of known kinds, and each ends after it starts
pub record Nodes (w : List ℕ) (n : ℕ) : Type 0 where
  pub words : n * words_per_node ≤ length w
  pub few : n < 8193
  pub known : (k : ℕ) → k < n → kind_at w k < Kind.count
  pub onward : (k : ℕ) → k < n → k < end_at w k

-- and ends within them
pub record Shaped (w : List ℕ) (n : ℕ) : Type 0 where
  pub nodes : Nodes w n
  pub within : (k : ℕ) → k < n → end_at w k ≤ n

-- node i is of this kind and ends at e
pub record Parent (w : List ℕ) (i kind e : ℕ) : Type 0 where
  pub nodes : Nodes w e
  pub before : i < e
  pub kind_is : kind ≡ kind_at w i
  pub end_is : e ≡ end_at w i

-- of a node that ends at e, the children from node c on
unfoldable pub from : List ℕ → ℕ → ℕ → List ℕ
unfolding siblings
from w c e = siblings (e - c) w c e
