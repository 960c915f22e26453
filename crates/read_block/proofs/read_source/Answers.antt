-- `read_block::read_source` reads the source between the quotes: what it writes is the block value, with a first line that has text
-- kept whole, or with the blank lines before the first text left out.
use Rattle.std.proofs.Common.{arith, ◌<◌}
use Rattle.read_block.proofs.Answered.{answered_as}
use Rattle.read_block.proofs.Parts.{first_line_kept, first_line_left_out}
use Rattle.read_block.proofs.read_source.Goals as goal

pub returns-then-start-eq0 : goal.returns-then-start-eq0
returns-then-start-eq0 c =
    answered_as _ _ c.args.out.now c.write_value.ensures
    (first_line_kept c.args.s.now _ c.text_end.result c.common_indent-n.result c.text_start-start.ensures c.text_end.ensures
    c.if-start-eq0.true c.line_length.result c.line_length.ensures.value c.common_indent-n.ensures)

pub returns : goal.returns
returns c =
    let some : 0 < c.text_start-start.result = omega (arith, c.if-start-eq0.false) in
    answered_as _ _ c.args.out.now c.write_value-2.ensures
    (first_line_left_out c.args.s.now _ c.text_end.result c.common_indent-n-2.result c.text_start-start.ensures c.text_end.ensures
    some c.common_indent-n-2.ensures _ c.past_indent.ensures)
