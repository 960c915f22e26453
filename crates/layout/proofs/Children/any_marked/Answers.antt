-- What is left to look at tells, since no argument definition that was passed is marked.
use Rattle.std.proofs.Common.{refl, sym, ◌∙◌}
use Rattle.meaning.specs.Children.{a}
use Rattle.layout.specs.Jobs.{ranged_within, ranged_node, ranged_children, ranged_on, ranged_less}
use Rattle.layout.specs.Marks.{marked_none, marked_here, marked_later, marked_at_lem}
use Rattle.layout.specs.Runs.{next_is_there}
use Rattle.layout.proofs.Children.any_marked.Goals as goal

pub loop-self-init : goal.loop-self-init
loop-self-init c = (c.requires, refl)

pub is_next-requires : goal.is_next-requires
is_next-requires c = ranged_within c.loop-self.invariant.0

pub of-requires : goal.of-requires
of-requires c = ranged_node c.loop-self.invariant.0 (next_is_there _ _ _ _ (sym c.is_next.ensures ∙ c.loop-self-test.true))

pub has_mark-requires : goal.has_mark-requires
has_mark-requires c =
    ranged_children c.loop-self.invariant.0 (next_is_there _ _ _ _ (sym c.is_next.ensures ∙ c.loop-self-test.true)) c.of.ensures

pub returns-then-has_mark : goal.returns-then-has_mark
returns-then-has_mark c =
    let own = rw c.of.ensures.next at c.has_mark.ensures in
    marked_here c.loop-self.invariant.0 (a 22) (sym c.is_next.ensures ∙ c.loop-self-test.true)
    (marked_at_lem _ _ _ _ c.of.ensures.end own ∙ c.if-has_mark.true)
    ∙ c.loop-self.invariant.1

pub pass-requires : goal.pass-requires
pass-requires c = ranged_node c.loop-self.invariant.0 (next_is_there _ _ _ _ (sym c.is_next.ensures ∙ c.loop-self-test.true))

pub loop-self-smaller : goal.loop-self-smaller
loop-self-smaller c =
    rw c.pass.ensures.end
    (ranged_less c.loop-self.invariant.0 (next_is_there _ _ _ _ (sym c.is_next.ensures ∙ c.loop-self-test.true)) c.pass.ensures.next)

pub loop-self-preserved : goal.loop-self-preserved
loop-self-preserved c =
    let own = rw c.of.ensures.next at c.has_mark.ensures in
    let z = sym c.is_next.ensures ∙ c.loop-self-test.true in
    rw c.pass.ensures.end (
      ranged_on c.loop-self.invariant.0 (next_is_there _ _ _ _ z) c.pass.ensures.next,
      marked_later c.loop-self.invariant.0 (a 22) z (marked_at_lem _ _ _ _ c.of.ensures.end own ∙ c.if-has_mark.false) c.pass.ensures.next
          ∙ c.loop-self.invariant.1,
    )

pub returns : goal.returns
returns c = sym (marked_none c.loop-self.invariant.0 (a 22) (sym c.is_next.ensures ∙ c.loop-self-test.false)) ∙ c.loop-self.invariant.1
