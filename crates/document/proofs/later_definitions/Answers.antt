-- `document::later_definitions` meets its contract: once those that are left are written, all are.
use Rattle.pen.specs.Wrote.{left_all, left_as, left_done}
use Rattle.accepted_laws.specs.Shape.{accepted_shaped}
use Rattle.layout.specs.Jobs.{in_table, less_left}
use Rattle.document.specs.Top.{tops_inside, tops_job, tops_kind, tops_on, none_later, later_turn}
use Rattle.document.proofs.later_definitions.Goals as goal

pub loop-definitions-init : goal.loop-definitions-init
loop-definitions-init c = (c.requires.tops, left_all)

pub serialize_definition-requires : goal.serialize_definition-requires
serialize_definition-requires c =
    let ok = c.requires.accepted in
    let kind = tops_kind ok c.loop-definitions.invariant.0 c.loop-definitions-test.true in
    record {
      job = tops_job ok c.loop-definitions.invariant.0 c.loop-definitions-test.true c.requires.level;
      low = kind.0;
      high = kind.1;
    }

pub pass-requires : goal.pass-requires
pass-requires c = in_table (accepted_shaped c.requires.accepted) (tops_inside c.requires.accepted c.loop-definitions.invariant.0 c.loop-definitions-test.true)

pub loop-definitions-smaller : goal.loop-definitions-smaller
loop-definitions-smaller c =
    rw c.pass.ensures.end (less_left (accepted_shaped c.requires.accepted) c.loop-definitions.invariant.0.range c.loop-definitions-test.true c.pass.ensures.next)

pub loop-definitions-preserved : goal.loop-definitions-preserved
loop-definitions-preserved c =
    let ok = c.requires.accepted in
    let x = c.loop-definitions.invariant.0 in
    let h = c.loop-definitions-test.true in (
      rw c.pass.ensures.end (tops_on ok x h c.pass.ensures.next),
      later_turn ok x h _ c.pass.ensures c.loop-definitions.invariant.1 c.apart.ensures c.serialize_definition.ensures,
    )

pub returns : goal.returns
returns c = left_done (left_as c.loop-definitions.invariant.1 (none_later _ _ _ c.loop-definitions-test.false))
