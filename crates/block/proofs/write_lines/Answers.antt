-- What is left to write are the lines from `from` on: the first of them ends at the next LF, and the others stand behind it.
use Rattle.std.proofs.Common.{rules}
use Rattle.pen.specs.Wrote.{left_step, left_done, left_as}
use Rattle.block.specs.Text.{last_block_line, next_block_line}
use Rattle.block.specs.Places.{before_end}
use Rattle.block.proofs.write_lines.Goals as goal

pub returns-then-end-value : goal.returns-then-end-value
returns-then-end-value c =
    let n = last_block_line _ c.find-end.ensures c.if-end-value.true in
    left_done (left_step (left_as c.loop-from.invariant.1 n) c.write_line.ensures)

pub loop-from-preserved : goal.loop-from-preserved
loop-from-preserved c =
    let e = c.find-end.ensures in
    let h = before_end e c.if-end-value.false in
    (search rules, left_step (left_as c.loop-from.invariant.1 (next_block_line _ e h)) c.write_line.ensures)
