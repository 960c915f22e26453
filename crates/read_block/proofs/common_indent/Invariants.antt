-- `read_block::common_indent`: what was seen and the common indent of the lines to come always give that of all.
use Rattle.std.proofs.Common.{◌≡◌, length}
use Rattle.meaning.specs.Block.{common_indent}
use Rattle.read_block_laws.specs.FirstLine.{lines_of}
use Rattle.read_block_laws.specs.LeastIndent.{merged}
use Rattle.read_block.specs.Indent.{indent_seen}
use Rattle.read_block.proofs.common_indent.Given as goal

abbrev pub invariant-loop-behind : goal.invariant-loop-behind
invariant-loop-behind l = merged (indent_seen l.least) (common_indent (lines_of l.rest)) ≡ common_indent (lines_of l.s)

abbrev pub decreases-loop-behind : goal.decreases-loop-behind
decreases-loop-behind l = length l.rest
