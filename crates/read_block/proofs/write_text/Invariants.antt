-- `read_block::write_text`: once what is left of the source is written, the whole is.
use Rattle.std.proofs.Common.{length}
use Rattle.pen.specs.Wrote.{Left}
use Rattle.read_block_laws.specs.Text.{text_of}
use Rattle.read_block.proofs.write_text.Given as goal

abbrev pub invariant-loop-others : goal.invariant-loop-others
invariant-loop-others l = Left l.initial.pen (text_of l.n l.text) l.pen (text_of l.n l.rest)

abbrev pub decreases-loop-others : goal.decreases-loop-others
decreases-loop-others l = length l.rest
