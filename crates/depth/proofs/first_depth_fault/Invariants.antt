-- `depth` counts the nodes before i that end at i or later, and closes[i] those that end at i: what is left are the nodes above i.
use Rattle.depth.proofs.Laws.{Scanned}
use Rattle.depth.proofs.first_depth_fault.Given as goal

abbrev pub invariant-loop-i : goal.invariant-loop-i
invariant-loop-i l = Scanned l.table.words.now l.n 8193 l.closes l.depth l.i
