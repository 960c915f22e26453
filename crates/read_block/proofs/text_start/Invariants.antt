-- `read_block::text_start` finds the first line that is not blank: before its place there are only blank lines.
use Rattle.std.proofs.Common.{◌-◌, length}
use Rattle.read_block_laws.specs.TrimmedFront.{BlankBefore}
use Rattle.read_block.proofs.text_start.Given as goal

abbrev pub invariant-loop-b : goal.invariant-loop-b
invariant-loop-b l = BlankBefore l.s l.start

abbrev pub decreases-loop-b : goal.decreases-loop-b
decreases-loop-b l = length l.s - l.start
