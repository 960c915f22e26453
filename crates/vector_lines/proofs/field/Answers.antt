-- The field of the number that is left, from `at` on, is the field of the line.
use Rattle.std.proofs.Common.{◌∙◌, sym}
use Rattle.vector_lines.proofs.Parts.{field_past, field_none}
use Rattle.vector_lines.proofs.field.Goals as goal

pub loop-preserved : goal.loop-preserved
loop-preserved c = field_past _ _ _ _ _ c.loop-test.true c.past-at.ensures ∙ c.loop.invariant

pub returns : goal.returns
returns c = c.part.ensures ∙ sym (field_none _ _ _ c.loop-test.false) ∙ c.loop.invariant
