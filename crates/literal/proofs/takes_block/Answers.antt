-- Each test of the rule, in order.
use Rattle.std.proofs.Common.{sym, ap, ◌∙◌, not}
use Rattle.base.specs.Bools.{clash}
use Rattle.meaning.specs.Literal.{takes_block}
use Rattle.literal.specs.Chosen.{no_breaks, described, no_feed, some_feed}
use Rattle.literal.proofs.takes_block.Goals.{then-settings+then-description, then-settings+else-description, else-settings}
use Rattle.literal.proofs.takes_block.Goals as goal

pub returns-then-contains_newline : goal.returns-then-contains_newline
unfolding takes_block
returns-then-contains_newline c =
    let b = c.args.settings.now.breaks in
    let t = c.if-contains_newline.true in
    elim c.if-settings.branch [
      | then-settings+then-description w ↦ described b _ _ _ _ (ap not w.if-settings.true) w.if-description.true c.can_be_block_string.ensures
      | then-settings+else-description w ↦
          some_feed b _ _ _ _ _ (ap not w.if-settings.true) w.if-description.false w.contains_newline.ensures (ap not (sym w.value-is ∙ t)) c.can_be_block_string.ensures
      | else-settings w ↦ clash t (w.value-is ∙ w.if-settings.false)
    ]

pub returns-else-contains_newline : goal.returns-else-contains_newline
unfolding takes_block
returns-else-contains_newline c =
    let b = c.args.settings.now.breaks in
    let f = c.if-contains_newline.false in
    elim c.if-settings.branch [
      | then-settings+then-description w ↦ clash (w.value-is ∙ w.if-description.true) f
      | then-settings+else-description w ↦
          f ∙ no_feed b _ _ _ _ (ap not w.if-settings.true) w.if-description.false w.contains_newline.ensures (ap not (sym w.value-is ∙ f))
      | else-settings w ↦ f ∙ no_breaks b _ (ap not w.if-settings.false)
    ]
