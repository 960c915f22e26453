-- `Gap::write` meets its contract: a comma and a new line one after the other.
use Rattle.pen.specs.Wrote.{◌⨾◌}
use Rattle.layout.proofs.Gap.write.Goals as goal

pub returns-in-Comma : goal.returns-in-Comma
returns-in-Comma c = rw c.in-Comma.is (c.write-in-Comma.ensures ⨾ c.new_line_or_space-in-Comma.ensures)
