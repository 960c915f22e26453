-- `read_block::read_block` reads one block string: a text that is not closed reads as nothing, and one that is closed as its source
-- before the last three bytes.
use Rattle.std.proofs.Common.{sym, ◌∙◌, arith, ◌<◌, length}
use Rattle.std.proofs.lemmas.List.{take_rest}
use Rattle.read_block_laws.specs.Closing.{closed_reads}
use Rattle.read_block.proofs.Parts.{not_closed_is_refused, short_is_refused, closed_is_read}
use Rattle.read_block.proofs.read_block.Goals as goal

pub returns-in_default : goal.returns-in_default
returns-in_default c =
    let h : length c.args.text.now < 3 = omega (arith, c.in_default.ensures.lookup) in
    short_is_refused _ _ h

pub returns-then-not-is_closed : goal.returns-then-not-is_closed
returns-then-not-is_closed c =
    not_closed_is_refused c.args.text.now c.in-Some.s.now c.args.out.now (c.in-Some.ensures.lookup.0.2 ∙ take_rest _ 3) (sym c.is_closed.ensures ∙ c.if-not-is_closed.true)

pub slice_bounds-read_source-count : goal.slice_bounds-read_source-count
slice_bounds-read_source-count c = (closed_reads _ (sym c.is_closed.ensures ∙ c.if-not-is_closed.false)).0

pub returns : goal.returns
returns c =
    closed_is_read c.args.text.now c.in-Some.s.now c.args.out.now (c.in-Some.ensures.lookup.0.2 ∙ take_rest _ 3) (sym c.is_closed.ensures ∙ c.if-not-is_closed.false) c.read_source.ensures
