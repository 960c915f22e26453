-- A list type's inner type is a later node.
use Rattle.std.proofs.Common.{◌-◌}
use Rattle.meaning.specs.Table.{nodes}
use Rattle.types.proofs.+serialize_type.Given as goal

abbrev pub decreases-serialize_type : goal.decreases-serialize_type
decreases-serialize_type l = nodes l.table.now.words.now - l.node.0
