-- No node between i and j ends later than i. What the link of j passes ends no later than j, which ends no later than i.
use Rattle.std.proofs.Common.{◌-◌}
use Rattle.nesting.specs.Links.{Passes}
use Rattle.nesting.proofs.next_that_ends_later.Given as goal

abbrev pub invariant-loop-j : goal.invariant-loop-j
invariant-loop-j l = Passes l.table.words.now l.n l.i l.j

abbrev pub decreases-loop-j : goal.decreases-loop-j
decreases-loop-j l = l.n - l.j
