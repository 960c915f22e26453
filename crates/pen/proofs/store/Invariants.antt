-- What is left to store is `bytes` from i on, at the place i further. The loop ends where `bytes` or `out` does, and then storing the
-- rest changes nothing.
use Rattle.std.specs.Prelude.{◌≡◌, ◌+◌, length, drop}
use Rattle.pen.specs.Put.{put}
use Rattle.pen.proofs.store.Given as goal

abbrev pub invariant-loop-i : goal.invariant-loop-i
invariant-loop-i l = (put l.out (l.at + l.i) (drop l.i l.bytes) ≡ put l.initial.out l.at l.bytes) × (length l.out ≡ length l.initial.out)
