-- From i on each node has its link, and `smallest` is the first fault: the link of the node that comes to them decides its own.
use Rattle.std.proofs.Common.{arith, refl, ◌-◌}
use Rattle.table_laws.specs.First.{from_first}
use Rattle.nesting.proofs.Laws.{scan_hit, scan_miss}
use Rattle.nesting.proofs.scan.Goals as goal

pub loop-i-preserved-then-next-end : goal.loop-i-preserved-then-next-end
loop-i-preserved-then-next-end c = (
  scan_hit (omega arith) c.loop-i.invariant.0 c.next_that_ends_later-next.ensures refl (c.requires.0.within (c.loop-i.i - 1) (omega arith)) (omega arith),
  omega arith,
)

pub loop-i-preserved : goal.loop-i-preserved
loop-i-preserved c = (scan_miss (omega arith) c.loop-i.invariant.0 c.next_that_ends_later-next.ensures (omega arith), c.loop-i.invariant.1)

pub returns-clause-place : goal.returns-clause-place
returns-clause-place c = from_first (omega arith) c.loop-i.invariant.0.from
