-- The parts that are left, from `at` on, decide for all.
use Rattle.std.proofs.Common.{◌≡◌, ◌-◌, drop}
use Rattle.vector_lines.specs.Words.{are_words}
use Rattle.vector_lines.proofs.are_words.Given as goal

abbrev pub invariant-loop : goal.invariant-loop
invariant-loop l = are_words (l.n - l.counter) (drop l.at l.s) ≡ are_words l.n l.s
