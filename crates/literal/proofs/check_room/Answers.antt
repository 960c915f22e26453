-- By the bound, or by a walk that writes nowhere and tells the length.
use Rattle.std.proofs.Common.{arith, refl}
use Rattle.pen.specs.Wrote.{wrote_nowhere}
use Rattle.literal.specs.Chosen.{fits_yes, fits_needs, sure_fit, chosen_is_short}
use Rattle.literal.proofs.check_room.Goals as goal

pub returns-then-value-room : goal.returns-then-value-room
returns-then-value-room c = fits_yes _ _ (sure_fit _ _ _ _ c.if-not-blockwise.true c.if-value-room.true)

pub returns-then-room-pen : goal.returns-then-room-pen
returns-then-room-pen c =
    let m = (wrote_nowhere c.over-pen.ensures refl c.write_chosen.ensures (chosen_is_short _ _ _ _ (omega arith) (omega arith) (omega arith))).0 in
    fits_needs _ _ _ m c.if-room-pen.true

pub returns : goal.returns
returns c =
    let m = (wrote_nowhere c.over-pen.ensures refl c.write_chosen.ensures (chosen_is_short _ _ _ _ (omega arith) (omega arith) (omega arith))).0 in
    fits_yes _ _ (omega (arith, m, c.if-room-pen.false))
