-- `Settings::new_line_or_space` meets its contract.
use Rattle.std.proofs.Common.{◌∙◌}
use Rattle.pen.specs.Wrote.{wrote_as}
use Rattle.settings.specs.Lines.{line_on, space_on, space_off}
use Rattle.settings.proofs.Settings.new_line_or_space.Goals as goal

pub returns-then-self : goal.returns-then-self
returns-then-self c = wrote_as c.line_break.ensures (line_on _ _ _ c.if-self.true ∙ space_on _ _ _ c.if-self.true)

pub returns-else-self : goal.returns-else-self
returns-else-self c = wrote_as c.write_byte.ensures (space_off _ _ _ c.if-self.false)
