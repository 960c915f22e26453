-- `Settings::line_break` meets its contract.
use Rattle.pen.specs.Wrote.{◌⨾◌}
use Rattle.settings.proofs.Settings.line_break.Goals as goal

pub returns : goal.returns
returns c = c.write_byte.ensures ⨾ c.write_times.ensures
