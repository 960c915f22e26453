-- `leaves::string_value` meets its contract: the literal of the text.
use Rattle.std.proofs.Common.{ap}
use Rattle.meaning.specs.Literal.{literal}
use Rattle.pen.specs.Wrote.{wrote_as}
use Rattle.leaves.proofs.string_value.Goals as goal

pub returns : goal.returns
returns c = wrote_as c.serialize_string_value.ensures (ap (literal _ _) c.text.ensures)
