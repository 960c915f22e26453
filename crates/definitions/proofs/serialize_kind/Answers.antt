-- `definitions::serialize_kind` meets its contract: a function for each kind.
use Rattle.definitions.specs.Segments.{did_as, described_body, extended_body}
use Rattle.definitions.proofs.serialize_kind.Goals as goal

pub returns-in-Scalar : goal.returns-in-Scalar
returns-in-Scalar c = did_as (described_body _ c.in-Scalar.is) c.type_definition.ensures

pub returns-in-ExtendScalar : goal.returns-in-ExtendScalar
returns-in-ExtendScalar c = did_as (extended_body _ c.in-ExtendScalar.is) c.type_extension.ensures
