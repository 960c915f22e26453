-- What is read is written, and what is left says the rest of the value.
use Rattle.std.proofs.Common.{length}
use Rattle.meaning.specs.Reading.{quoted_front, characters}
use Rattle.read_quoted.specs.Walks.{Midway}
use Rattle.read_quoted.proofs.write_value.Given as goal

abbrev pub invariant-loop-end : goal.invariant-loop-end
invariant-loop-end l = Midway (characters quoted_front 0 l.text) l.initial.pen l.pen (characters quoted_front 0 l.rest)

abbrev pub decreases-loop-end : goal.decreases-loop-end
decreases-loop-end l = length l.rest
