-- `document::top_level` meets its contract: the first definition, the later ones, and a line feed.
use Rattle.pen.specs.Wrote.{◌⨾◌, wrote_as, wrote_none}
use Rattle.accepted_laws.specs.Shape.{accepted_shaped, accepted_some_node}
use Rattle.layout.specs.Jobs.{in_table}
use Rattle.document.specs.Top.{first_tops, tops_inside, tops_job, tops_kind, tops_on, empty_document, document_is}
use Rattle.document.proofs.top_level.Goals as goal

pub of-definitions-requires : goal.of-definitions-requires
of-definitions-requires c = in_table (accepted_shaped c.requires.accepted) (accepted_some_node c.requires.accepted)

pub serialize_definition-requires-clause-job : goal.serialize_definition-requires-clause-job
serialize_definition-requires-clause-job c =
    let ok = c.requires.accepted in tops_job ok (first_tops ok c.of-definitions.ensures) c.if-definitions.true c.requires.level

pub serialize_definition-requires-clause-low : goal.serialize_definition-requires-clause-low
serialize_definition-requires-clause-low c =
    let ok = c.requires.accepted in (tops_kind ok (first_tops ok c.of-definitions.ensures) c.if-definitions.true).0

pub serialize_definition-requires-clause-high : goal.serialize_definition-requires-clause-high
serialize_definition-requires-clause-high c =
    let ok = c.requires.accepted in (tops_kind ok (first_tops ok c.of-definitions.ensures) c.if-definitions.true).1

pub pass-requires : goal.pass-requires
pass-requires c =
    let ok = c.requires.accepted in in_table (accepted_shaped ok) (tops_inside ok (first_tops ok c.of-definitions.ensures) c.if-definitions.true)

pub later_definitions-requires-clause-tops : goal.later_definitions-requires-clause-tops
later_definitions-requires-clause-tops c =
    let ok = c.requires.accepted in
    rw c.pass.ensures.end (tops_on ok (first_tops ok c.of-definitions.ensures) c.if-definitions.true c.pass.ensures.next)

pub returns-then-definitions : goal.returns-then-definitions
returns-then-definitions c =
    wrote_as (c.serialize_definition.ensures ⨾ c.later_definitions.ensures ⨾ c.end_line.ensures)
    (document_is c.requires.accepted _ c.of-definitions.ensures c.if-definitions.true c.pass.ensures)

pub returns-else-definitions : goal.returns-else-definitions
returns-else-definitions c =
    wrote_as wrote_none (empty_document c.requires.accepted _ c.of-definitions.ensures c.if-definitions.false)
