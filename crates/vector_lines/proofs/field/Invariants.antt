-- The field of the number that is left, from `at` on, is the field of the line.
use Rattle.std.proofs.Common.{◌≡◌, ◌-◌, drop}
use Rattle.vector_lines.specs.Parts.{field_of}
use Rattle.vector_lines.proofs.field.Given as goal

abbrev pub invariant-loop : goal.invariant-loop
invariant-loop l = field_of (l.number - l.counter) (drop l.at l.line) ≡ field_of l.number l.line
