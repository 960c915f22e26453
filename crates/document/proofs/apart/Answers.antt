-- `document::apart` meets its contract: an empty line and a new one, or a space.
use Rattle.pen.specs.Wrote.{◌⨾◌, wrote_as}
use Rattle.document.specs.Top.{apart_on, apart_off}
use Rattle.document.proofs.apart.Goals as goal

pub returns-then-settings : goal.returns-then-settings
returns-then-settings c = wrote_as (c.write_byte.ensures ⨾ c.line_break.ensures) (apart_on _ _ _ c.if-settings.true)

pub returns-else-settings : goal.returns-else-settings
returns-else-settings c = wrote_as c.write_byte-else-settings.ensures (apart_off _ _ _ c.if-settings.false)
