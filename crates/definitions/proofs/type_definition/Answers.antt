-- `definitions::type_definition` meets its contract: the parts of its rule, one after the other.
use Rattle.layout.specs.Did.{◌⨾◌}
use Rattle.definitions.specs.Segments.{parts_walked}
use Rattle.definitions.proofs.type_definition.Goals as goal

pub type_like-requires : goal.type_like-requires
type_like-requires c = parts_walked c.requires (c.serialize_description.ensures 0).walked

pub returns : goal.returns
returns c = c.serialize_description.ensures _ ⨾ c.type_like.ensures
