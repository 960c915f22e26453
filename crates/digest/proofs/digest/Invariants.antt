-- What the rest of the bytes makes of the remainder is the digest of the whole.
use Rattle.std.proofs.Common.{◌≡◌, ◌%◌, ◌<◌, drop}
use Rattle.digest.specs.Digest.{modulus, number_from, digest}
use Rattle.digest.proofs.digest.Given as goal

abbrev pub invariant-loop-b : goal.invariant-loop-b
invariant-loop-b l = (l.remainder < modulus) × (number_from l.remainder (drop l.b-index l.text) % modulus ≡ digest l.text)
