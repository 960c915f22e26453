-- What is left to write is `bytes`, as many times as the counter has still to go.
use Rattle.std.proofs.Common.{◌-◌}
use Rattle.meaning.specs.Settings.{times}
use Rattle.pen.specs.Wrote.{Left}
use Rattle.pen.proofs.Pen.write_times.Given as goal

abbrev pub invariant-loop : goal.invariant-loop
invariant-loop l = Left l.initial.own (times l.count l.bytes) l.own (times (l.count - l.counter) l.bytes)
