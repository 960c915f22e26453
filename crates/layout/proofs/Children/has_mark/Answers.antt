-- What is left to look at tells, since no child that was passed has the mark.
use Rattle.std.proofs.Common.{refl, sym, ap, ◌∙◌}
use Rattle.meaning.specs.Layout.{is_mark}
use Rattle.layout.specs.Jobs.{ranged_node, ranged_on, ranged_less}
use Rattle.layout.specs.Marks.{mark_none, mark_here, mark_later}
use Rattle.layout.proofs.Children.has_mark.Goals as goal

pub loop-self-init : goal.loop-self-init
loop-self-init c = (c.requires, refl)

pub kind_number-requires : goal.kind_number-requires
kind_number-requires c = ranged_node c.loop-self.invariant.0 c.loop-self-test.true

pub returns-then-is_mark : goal.returns-then-is_mark
returns-then-is_mark c =
    mark_here c.loop-self.invariant.0 c.loop-self-test.true (ap is_mark (sym c.kind_number.ensures) ∙ sym c.is_mark.ensures ∙ c.if-is_mark.true)
    ∙ c.loop-self.invariant.1

pub pass-requires : goal.pass-requires
pass-requires c = ranged_node c.loop-self.invariant.0 c.loop-self-test.true

pub loop-self-smaller : goal.loop-self-smaller
loop-self-smaller c = rw c.pass.ensures.end (ranged_less c.loop-self.invariant.0 c.loop-self-test.true c.pass.ensures.next)

pub loop-self-preserved : goal.loop-self-preserved
loop-self-preserved c =
    rw c.pass.ensures.end (
      ranged_on c.loop-self.invariant.0 c.loop-self-test.true c.pass.ensures.next,
      mark_later c.loop-self.invariant.0 c.loop-self-test.true
          (ap is_mark (sym c.kind_number.ensures) ∙ sym c.is_mark.ensures ∙ c.if-is_mark.false) c.pass.ensures.next
          ∙ c.loop-self.invariant.1,
    )

pub returns : goal.returns
returns c = sym (mark_none _ _ c.loop-self-test.false) ∙ c.loop-self.invariant.1
