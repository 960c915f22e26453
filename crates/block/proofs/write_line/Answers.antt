-- By whether the line is empty, as `block_line` goes.
use Rattle.std.proofs.Common.{sym, ◌∙◌, eqb-true}
use Rattle.std.proofs.lemmas.Bool.{eqb-false}
use Rattle.pen.specs.Wrote.{◌⨾◌, wrote_as}
use Rattle.block.specs.Text.{empty_line, full_line}
use Rattle.block.proofs.write_line.Goals as goal

pub returns-then-is_empty : goal.returns-then-is_empty
returns-then-is_empty c = wrote_as c.write_byte.ensures (empty_line _ _ (eqb-true _ 0 (sym c.is_empty.ensures ∙ c.if-is_empty.true)))

pub returns-else-is_empty : goal.returns-else-is_empty
returns-else-is_empty c = wrote_as (c.line_break.ensures ⨾ c.serialize_line.ensures) (full_line _ _ (eqb-false _ 0 (sym c.is_empty.ensures ∙ c.if-is_empty.false)))
