-- No node passed has the fault, and the furthest end of a constant node passed is known.
use Rattle.std.proofs.Common.{ℕ, ◌≡◌, ◌<◌, false}
use Rattle.meaning.specs.Refusals.{children_fault}
use Rattle.children.proofs.Reach.{Reach}
use Rattle.children.proofs.first_children_fault.Given as goal

abbrev pub invariant-loop-i : goal.invariant-loop-i
invariant-loop-i l = ((k : ℕ) → k < l.i → children_fault l.table.words.now k ≡ false) × Reach l.table.words.now l.i l.reach
