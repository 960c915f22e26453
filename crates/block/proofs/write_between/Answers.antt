-- By `multi_line`, as `between` goes.
use Rattle.std.proofs.Common.{sym, ◌∙◌}
use Rattle.pen.specs.Wrote.{◌⨾◌, wrote_as}
use Rattle.block.specs.Text.{between_on_one_line, between_on_lines}
use Rattle.block.proofs.write_between.Goals as goal

pub returns-then-multi_line : goal.returns-then-multi_line
returns-then-multi_line c =
    let several = sym c.multi_line.ensures ∙ c.if-multi_line.true in
    wrote_as (c.write_lines.ensures ⨾ c.line_break.ensures) (between_on_lines _ _ several)

pub returns-else-multi_line : goal.returns-else-multi_line
returns-else-multi_line c =
    let one = sym c.multi_line.ensures ∙ c.if-multi_line.false in
    wrote_as c.serialize_line.ensures (between_on_one_line _ _ one)
