-- At each turn the children from `child` on fill the state exactly if all of them fill the first state.
use Rattle.std.proofs.Common.{◌∙◌, arith}
use Rattle.children.proofs.Family.{walk_step, walk_end}
use Rattle.children.proofs.fits.Goals as goal

pub loop-child-preserved : goal.loop-child-preserved
loop-child-preserved c =
    walk_step c.args.table.now.words.now c.args.end _ _ _ _ _ _ c.requires.onward (omega arith) c.kind.ensures c.variant.ensures.is
    c.end-child.ensures.is c.next-state.ensures c.loop-child.invariant

pub returns : goal.returns
returns c = c.may_end.ensures ∙ walk_end c.args.table.now.words.now c.args.end _ c.loop-child.child (omega arith) c.loop-child.invariant
