-- `trailing_comma` meets its contract: nothing with breaks off.
use Rattle.pen.specs.Wrote.{wrote_as, wrote_none}
use Rattle.layout.specs.Written.{comma_off, comma_on}
use Rattle.layout.proofs.trailing_comma.Goals as goal

pub returns-then-settings : goal.returns-then-settings
returns-then-settings c = wrote_as c.write.ensures (comma_on _ c.if-settings.true)

pub returns-else-settings : goal.returns-else-settings
returns-else-settings c = wrote_as wrote_none (comma_off _ c.if-settings.false)
