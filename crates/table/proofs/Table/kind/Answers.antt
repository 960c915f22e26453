-- `Table::kind` meets its contract: a number below 45 is a kind's.
use Rattle.std.proofs.Common.{arith, ◌∙◌}
use Rattle.table.proofs.Table.kind.Goals as goal

pub unreachable-requires : goal.unreachable-requires
unreachable-requires c = omega (arith, c.in-Err.ensures.0, c.kind_number.ensures, c.requires.1)

pub returns : goal.returns
returns c = c.in-Ok.ensures ∙ c.kind_number.ensures
