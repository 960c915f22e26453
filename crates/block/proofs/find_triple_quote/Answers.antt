-- Three quotes stand nowhere from `from` up to there: they begin with a quote, and at each one that was found no three stood.
use Rattle.std.proofs.Common.{sym, ◌∙◌}
use Rattle.block.specs.Quotes.{three_begin_with_one}
use Rattle.block.specs.Places.{clear_before, clear_for, clear_on, clear_one, found, found_nowhere}
use Rattle.block.proofs.find_triple_quote.Goals as goal

pub loop-quote-init : goal.loop-quote-init
loop-quote-init c = clear_for three_begin_with_one (clear_before c.find-quote.ensures)

pub loop-quote-preserved : goal.loop-quote-preserved
loop-quote-preserved c =
    let here = clear_one c.loop-quote-test.true (sym c.three_quotes.ensures ∙ c.if-not-three_quotes.true) in
    clear_on (clear_on c.loop-quote.invariant here) (clear_for three_begin_with_one (clear_before c.find-quote-in-loop-quote.ensures))

pub returns-else-not-three_quotes : goal.returns-else-not-three_quotes
returns-else-not-three_quotes c =
    found c.loop-quote.invariant c.loop-quote-test.true (sym c.three_quotes.ensures ∙ c.if-not-three_quotes.false)

pub returns-after-loop-quote : goal.returns-after-loop-quote
returns-after-loop-quote c = found_nowhere c.loop-quote.invariant c.loop-quote-test.false
