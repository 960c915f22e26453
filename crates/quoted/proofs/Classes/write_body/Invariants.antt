-- What is left to write is the body of `value` from there on: the run up to the next escape, the escape, and the body behind it.
use Rattle.std.proofs.Common.{◌≤◌, ◌-◌, length, drop}
use Rattle.meaning.specs.Quoted.{body}
use Rattle.pen.specs.Wrote.{Left}
use Rattle.quoted.proofs.Classes.write_body.Given as goal

abbrev pub invariant-loop-escape : goal.invariant-loop-escape
invariant-loop-escape l = (l.from ≤ length l.value) × Left l.initial.own (body l.value) l.own (body (drop l.from l.value))

abbrev pub decreases-loop-escape : goal.decreases-loop-escape
decreases-loop-escape l = length l.value - l.from
