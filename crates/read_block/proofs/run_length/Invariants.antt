-- `read_block::run_length`: the place and the bytes from there to the end of the run always add up to the same.
use Rattle.std.proofs.Common.{◌≡◌, ◌+◌, drop}
use Rattle.read_block_laws.specs.Text.{run_length}
use Rattle.read_block.proofs.run_length.Given as goal

abbrev pub invariant-loop-i : goal.invariant-loop-i
invariant-loop-i l = l.i + run_length (drop l.i l.s) ≡ run_length l.s
