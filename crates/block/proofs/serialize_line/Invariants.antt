-- What is left to write is the line from `from` on, escaped: up to the next three quotes the bytes themselves, then the escape.
use Rattle.std.proofs.Common.{◌≤◌, ◌-◌, length, drop}
use Rattle.meaning.specs.Block.{escaped_line}
use Rattle.pen.specs.Wrote.{Left}
use Rattle.block.proofs.serialize_line.Given as goal

abbrev pub invariant-loop-from : goal.invariant-loop-from
invariant-loop-from l = (l.from ≤ length l.line) × Left l.initial.pen (escaped_line l.line) l.pen (escaped_line (drop l.from l.line))

abbrev pub decreases-loop-from : goal.decreases-loop-from
decreases-loop-from l = length l.line - l.from
