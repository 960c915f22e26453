-- Each refusal by its law, and the literal by the writer that was told to write it.
use Rattle.std.proofs.Common.{sym, rules, ap, ◌∙◌, not, arith}
use Rattle.std.proofs.lemmas.Result.{err_from_is_err_and}
use Rattle.settings.specs.Faults.{small_settings}
use Rattle.meaning.specs.Literal.{takes_block}
use Rattle.literal.specs.Chosen.{chosen_is_literal}
use Rattle.literal.specs.Printing.{refuses_settings, refuses_size, refuses_text, printable, refuses_room, prints}
use Rattle.literal.proofs.print_literal.Goals as goal

pub returns-then-are_refused : goal.returns-then-are_refused
returns-then-are_refused c = refuses_settings _ _ _ _ _ c.are_refused.ensures c.if-are_refused.true

pub returns-then-value-gt-LONGEST_VALUE : goal.returns-then-value-gt-LONGEST_VALUE
returns-then-value-gt-LONGEST_VALUE c = refuses_size _ _ _ _ _ c.are_refused.ensures c.if-are_refused.false c.if-value-gt-LONGEST_VALUE.true

pub returns-then-not-is_utf8 : goal.returns-then-not-is_utf8
returns-then-not-is_utf8 c = refuses_text _ _ _ _ _ c.are_refused.ensures c.if-are_refused.false c.if-value-gt-LONGEST_VALUE.false _ c.is_utf8.ensures (ap not c.if-not-is_utf8.true)

pub check_room-requires : goal.check_room-requires
check_room-requires c =
    let small = small_settings _ _ _ _ (sym c.are_refused.ensures ∙ c.if-are_refused.false) in
    search (rules, small)

pub returns-in_err-check_room : goal.returns-in_err-check_room
unfolding takes_block
returns-in_err-check_room c =
    let p = printable _ _ _ c.are_refused.ensures c.if-are_refused.false c.if-value-gt-LONGEST_VALUE.false _ c.is_utf8.ensures (ap not c.if-not-is_utf8.false) in
    let e = err_from_is_err_and c.from_residual.result c.from_residual.ensures.1 in
    rw (e.1, e.2) (refuses_room _ _ _ _ p (chosen_is_literal _ _ _ _ _ _ c.takes_block-blockwise.ensures) c.args.out.now _ c.in_err-check_room.ensures)

pub returns : goal.returns
unfolding takes_block
returns c =
    let p = printable _ _ _ c.are_refused.ensures c.if-are_refused.false c.if-value-gt-LONGEST_VALUE.false _ c.is_utf8.ensures (ap not c.if-not-is_utf8.false) in
    let same = sym (c.write_chosen.ensures.same ∙ c.over-pen.ensures.same) in
    prints _ _ _ _ p (chosen_is_literal _ _ _ _ _ _ c.takes_block-blockwise.ensures) c.in_ok-check_room.ensures c.over-pen.ensures c.write_chosen.ensures
    (grind (arith, same))
