-- `layout::name` meets its contract: the text is the part of the pool that the node names.
use Rattle.pen.specs.Wrote.{wrote_as}
use Rattle.layout.proofs.name.Goals as goal

pub returns : goal.returns
returns c = wrote_as c.write.ensures c.text.ensures
