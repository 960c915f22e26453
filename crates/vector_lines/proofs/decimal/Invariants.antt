-- The number read so far, with the digits that are left, is the whole. It is below 10^18, so that a digit more fits.
use Rattle.std.proofs.Common.{◌≡◌, ◌^◌, ◌<◌, drop}
use Rattle.vector_lines.specs.Numbers.{number_from, number_of}
use Rattle.vector_lines.proofs.decimal.Given as goal

abbrev pub invariant-loop-b : goal.invariant-loop-b
invariant-loop-b l = (l.n < 10 ^ 18) × (number_from l.n (drop l.b-index l.s) ≡ number_of l.s)
