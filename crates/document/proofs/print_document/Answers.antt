-- `document::print_document` meets its contract: the check's refusal, or the text measured and then written where there is room.
use Rattle.std.proofs.Common.{sym, refl, ◌∙◌, arith}
use Rattle.std.proofs.lemmas.Result.{err_from_is_err_and}
use Rattle.accepted_laws.specs.Shape.{accepted_shaped}
use Rattle.accepted_laws.specs.Lists.{accepted_lists}
use Rattle.document.specs.Printing.{refuses_as_checked, all_fine, small_level, refuses_room, prints}
use Rattle.document.proofs.print_document.Goals as goal

pub returns-in_err-check_document : goal.returns-in_err-check_document
returns-in_err-check_document c =
    let e = err_from_is_err_and c.from_residual.result c.from_residual.ensures.1 in
    rw (e.1, e.2) (refuses_as_checked _ _ _ c.in_err-check_document.field-0.0 c.args.out.now c.in_err-check_document.ensures)

pub invariant_of-printer : goal.invariant_of-printer
invariant_of-printer c =
    let ok = all_fine _ _ _ c.in_ok-check_document.ensures in record { shaped = accepted_shaped ok; lists = accepted_lists ok }

pub top_level-requires : goal.top_level-requires
top_level-requires c = record { accepted = all_fine _ _ _ c.in_ok-check_document.ensures; level = small_level _ _ _ c.in_ok-check_document.ensures }

pub returns-then-out-measure : goal.returns-then-out-measure
returns-then-out-measure c = refuses_room _ _ _ c.in_ok-check_document.ensures c.over-measure.ensures refl c.top_level.ensures _ c.if-out-measure.true

pub top_level-requires-2 : goal.top_level-requires-2
top_level-requires-2 c = record { accepted = all_fine _ _ _ c.in_ok-check_document.ensures; level = small_level _ _ _ c.in_ok-check_document.ensures }

pub returns : goal.returns
returns c =
    let same = sym (c.top_level-2.ensures.same ∙ c.over-pen.ensures.same) in
    prints _ _ _ c.in_ok-check_document.ensures c.over-measure.ensures refl c.top_level.ensures c.if-out-measure.false c.over-pen.ensures
    c.top_level-2.ensures (grind (arith, same))
