-- Neither byte stands from `from` up to there, since neither is among the bytes of each part.
use Rattle.std.proofs.Common.{sym, ◌∙◌}
use Rattle.block.specs.Places.{clear_next}
use Rattle.block.proofs.skip_without.Goals as goal

pub loop-part-preserved : goal.loop-part-preserved
loop-part-preserved c =
    let s = c.in-Some.ensures.steps in
    let n = clear_next _ _ _ c.loop-part.invariant.0 (sym c.loop-part.invariant.1 ∙ s.1.0) (sym c.contains.ensures ∙ c.if-contains.false) (sym c.contains-else-contains.ensures ∙ c.if-contains-2.false) in
    (n.0, n.1, s.0 ∙ c.loop-part.invariant.2)
