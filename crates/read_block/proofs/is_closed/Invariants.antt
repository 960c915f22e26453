-- `read_block::is_closed` passes over an escape, a byte or bytes that are no marks: that changes nothing of whether the text is closed.
use Rattle.std.proofs.Common.{◌≡◌, length}
use Rattle.read_block_laws.specs.Closing.{closed}
use Rattle.read_block.proofs.is_closed.Given as goal

abbrev pub invariant-loop-rest : goal.invariant-loop-rest
invariant-loop-rest l = closed l.rest ≡ closed l.s

abbrev pub decreases-loop-rest : goal.decreases-loop-rest
decreases-loop-rest l = length l.rest
