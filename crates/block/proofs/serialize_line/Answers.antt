-- What is left to write is the line from `from` on, escaped: up to the next three quotes the bytes themselves, then the escape.
use Rattle.pen.specs.Wrote.{left_step, left_done, left_as}
use Rattle.block.specs.Places.{before_end}
use Rattle.block.specs.Quotes.{no_quotes_left, quotes_left, quotes_are_three}
use Rattle.block.proofs.serialize_line.Goals as goal

pub returns-then-quotes-line : goal.returns-then-quotes-line
returns-then-quotes-line c =
    let n = no_quotes_left c.find_triple_quote-quotes.ensures c.if-quotes-line.true in
    left_done (left_step (left_as c.loop-from.invariant.1 n) c.write.ensures)

pub loop-from-preserved : goal.loop-from-preserved
loop-from-preserved c =
    let q = c.find_triple_quote-quotes.ensures in
    let h = before_end q c.if-quotes-line.false in
    let l = left_step (left_as c.loop-from.invariant.1 (quotes_left q h)) c.write.ensures in
    (quotes_are_three q h, left_step l c.write-in-loop-from.ensures)
