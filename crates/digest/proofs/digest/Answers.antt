-- What the rest of the bytes makes of the remainder is the digest of the whole.
use Rattle.std.proofs.Common.{◌∙◌, refl, sym, arith}
use Rattle.digest.specs.Digest.{digest}
use Rattle.digest.proofs.Remainders.{digit_more, digits_end}
use Rattle.digest.proofs.digest.Goals as goal

pub loop-b-init : goal.loop-b-init
unfolding digest
loop-b-init c = (omega arith, refl)

pub loop-b-preserved : goal.loop-b-preserved
loop-b-preserved c =
    (omega arith, digit_more _ c.loop-b.b-index c.loop-b.remainder _ c.loop-b-test.true c.from.ensures ∙ c.loop-b.invariant.1)

pub returns : goal.returns
returns c = sym (digits_end _ c.loop-b.b-index _ c.loop-b-test.false c.loop-b.invariant.0) ∙ c.loop-b.invariant.1
