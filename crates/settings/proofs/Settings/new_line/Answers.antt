-- `Settings::new_line` meets its contract: nothing with breaks off.
use Rattle.pen.specs.Wrote.{wrote_as, wrote_none}
use Rattle.settings.specs.Lines.{line_on, line_off}
use Rattle.settings.proofs.Settings.new_line.Goals as goal

pub returns-then-self : goal.returns-then-self
returns-then-self c = wrote_as c.line_break.ensures (line_on _ _ _ c.if-self.true)

pub returns-else-self : goal.returns-else-self
returns-else-self c = wrote_as (wrote_none) (line_off _ _ _ c.if-self.false)
