-- `leaves::if_one` meets its contract: the variant tells.
use Rattle.std.proofs.Common.{sym, ◌∙◌, eq-eqb, ne_eqb}
use Rattle.pen.specs.Wrote.{wrote_as}
use Rattle.layout.specs.Did.{did_tokens, is_one, not_one, plain_close}
use Rattle.leaves.proofs.if_one.Goals as goal

pub returns-then-variant-eq1 : goal.returns-then-variant-eq1
returns-then-variant-eq1 c = λ p s at ps z b.
    is_one ps (eq-eqb _ 1 (sym c.variant.ensures.is ∙ c.if-variant-eq1.true)) (did_tokens ps z (wrote_as c.write.ensures (sym b)))

pub returns-else-variant-eq1 : goal.returns-else-variant-eq1
returns-else-variant-eq1 c = λ p s at ps z b.
    not_one ps (plain_close ps z) (ne_eqb _ 1 (λ y. c.if-variant-eq1.false (c.variant.ensures.is ∙ y)))
