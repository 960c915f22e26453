-- Three quotes stand nowhere from `from` up to there: they begin with a quote, and at each one that was found no three stood.
use Rattle.std.proofs.Common.{◌-◌, length}
use Rattle.meaning.specs.Block.{three_quotes}
use Rattle.block.specs.Places.{Clear}
use Rattle.block.proofs.find_triple_quote.Given as goal

abbrev pub invariant-loop-quote : goal.invariant-loop-quote
invariant-loop-quote l = Clear three_quotes l.line l.from l.quote

abbrev pub decreases-loop-quote : goal.decreases-loop-quote
decreases-loop-quote l = length l.line - l.quote
