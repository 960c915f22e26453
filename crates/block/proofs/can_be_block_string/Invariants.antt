-- What the rule asks of the value is what it asks of the lines from `from` on, with `unindented` for the lines before them. The first
-- of these is the first of all where `from` is 0.
use Rattle.std.proofs.Common.{◌≡◌, ◌≤◌, ◌-◌, length, drop, eqb}
use Rattle.meaning.specs.Block.{can_be_block_string}
use Rattle.block.specs.Rule.{remaining}
use Rattle.block.proofs.can_be_block_string.Given as goal

abbrev pub invariant-loop-unindented : goal.invariant-loop-unindented
invariant-loop-unindented l = (l.from ≤ length l.value) × (remaining (eqb l.from 0) l.unindented (drop l.from l.value) ≡ can_be_block_string l.value)

abbrev pub decreases-loop-unindented : goal.decreases-loop-unindented
decreases-loop-unindented l = length l.value - l.from
