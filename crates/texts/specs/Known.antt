-- What refusals 2 and 3 leave to the check of texts: every kind is known, and every text lies in the pool.
use Rattle.std.specs.Prelude.{List, ℕ, ◌+◌, ◌*◌, ◌≤◌, ◌<◌, length}
use Rattle.meaning.specs.Kind
use Rattle.meaning.specs.Table.{words_per_node, kind_at, start_at, length_at}

pub record KnownText (w p : List ℕ) (i : ℕ) : Type 0 where
  pub kind : kind_at w i < Kind.count
  pub in_pool : start_at w i + length_at w i ≤ length p

-- the first n nodes are so, of at most 8,192
pub record KnownTexts (w p : List ℕ) (n : ℕ) : Type 0 where
  pub words : n * words_per_node ≤ length w
  pub few : n < 8193
  pub each : (k : ℕ) → k < n → KnownText w p k
