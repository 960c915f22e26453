-- No node passed has the fault, and the furthest end of a constant node passed is known.
use Rattle.std.proofs.Common.{◌≡◌, ◌+◌, sym, ◌∙◌, subst, below_more, arith}
use Rattle.std.proofs.lemmas.Grind.{common_steps}
use Rattle.table_laws.specs.First.{first_hit, first_none}
use Rattle.meaning.specs.Table.{kind_at, end_at}
use Rattle.children.specs.Reach.{furthest}
use Rattle.children.proofs.Reach.{Reach, in_constant_lem, reach_more}
use Rattle.children.proofs.first_children_fault.Goals as goal

pub returns-then-children_fault-clause-place : goal.returns-then-children_fault-clause-place
returns-then-children_fault-clause-place c = first_hit c.loop-i-test.true c.loop-i.invariant.0 (sym c.children_fault.ensures ∙ c.if-children_fault.true)

pub children_fault-requires-clause-reach : goal.children_fault-requires-clause-reach
children_fault-requires-clause-reach c = in_constant_lem _ _ _ c.loop-i.invariant.1

pub loop-i-preserved : goal.loop-i-preserved
unfolding furthest
loop-i-preserved c =
    let w = c.args.table.now.words.now in
    let e : c.if-is_constant.reach ≡ furthest c.loop-i.reach (kind_at w c.loop-i.i) (end_at w c.loop-i.i) = grind (arith, common_steps) in (
      below_more _ _ c.loop-i.invariant.0 (sym c.children_fault.ensures ∙ c.if-children_fault.false),
      subst (Reach w (c.loop-i.i + 1)) (sym e) (reach_more _ _ _ c.loop-i.invariant.1),
    )

pub returns-clause-place : goal.returns-clause-place
returns-clause-place c = first_none (λ k l. c.loop-i.invariant.0 k (omega arith))
