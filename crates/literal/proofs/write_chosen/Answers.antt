-- One writer for each form.
use Rattle.pen.specs.Wrote.{wrote_as}
use Rattle.literal.specs.Chosen.{chosen_block, chosen_quoted}
use Rattle.literal.proofs.write_chosen.Goals as goal

pub returns-then-blockwise : goal.returns-then-blockwise
returns-then-blockwise c = wrote_as c.write_block_string.ensures (chosen_block _ _ _ c.if-blockwise.true)

pub returns-else-blockwise : goal.returns-else-blockwise
returns-else-blockwise c = wrote_as c.write_quoted.ensures (chosen_quoted _ _ _ c.if-blockwise.false)
