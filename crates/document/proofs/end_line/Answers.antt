-- `document::end_line` meets its contract: nothing with breaks off.
use Rattle.pen.specs.Wrote.{wrote_as, wrote_none}
use Rattle.document.specs.Top.{ending_on, ending_off}
use Rattle.document.proofs.end_line.Goals as goal

pub returns-then-settings : goal.returns-then-settings
returns-then-settings c = wrote_as c.write_byte.ensures (ending_on _ c.if-settings.true)

pub returns-else-settings : goal.returns-else-settings
returns-else-settings c = wrote_as wrote_none (ending_off _ c.if-settings.false)
