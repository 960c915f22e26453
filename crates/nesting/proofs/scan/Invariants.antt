-- From i on each node has its link, and `smallest` is the first fault: the link of the node that comes to them decides its own.
use Rattle.std.specs.Prelude.{length, IfSome, ◌<◌}
use Rattle.table.specs.First.{found_or}
use Rattle.nesting.proofs.Laws.{Scanned}
use Rattle.nesting.proofs.scan.Given as goal

abbrev pub invariant-loop-i : goal.invariant-loop-i
invariant-loop-i l = Scanned l.table.words.now l.n (length l.initial.links) l.links (found_or l.n l.smallest) l.i × IfSome l.smallest (λ k. k.0 < l.n)
