-- `Table::text` meets its contract: the pool from the start on, and of that as many bytes as the length says.
use Rattle.std.proofs.Math.Path.{◌≡◌}
use Rattle.std.specs.Prelude.{List, take, drop}
use Prim.Native.Nat.{ℕ, ◌+◌, ◌-◌}
use Rattle.std.proofs.Common.{arith}
use Rattle.meaning.specs.Table.{text_at}
use Rattle.table.proofs.Table.text.Goals as goal

part : (l : List ℕ) {a n s k : ℕ} → a ≡ s → n ≡ k → take (a + n - a) (drop a l) ≡ take k (drop s l)
part l {a} {n} e f = let g : a + n - a ≡ n = omega arith in rw (g, e, f)

pub returns : goal.returns
unfolding text_at
returns c = part _ c.start-from.ensures.is c.length.ensures.is
