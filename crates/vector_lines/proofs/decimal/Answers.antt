-- The number read so far, with the digits that are left, is the whole. It is below 10^18, so that a digit more fits.
use Rattle.std.proofs.Common.{◌≡◌, ◌<◌, None, length, drop, ◌∙◌, refl, sym, arith, eqb-true}
use Rattle.std.proofs.lemmas.Bool.{eqb-false}
use Rattle.vector_lines.specs.Numbers.{number_from}
use Rattle.vector_lines.proofs.Hex.{digit_none, digit_some, number_more, number_bad, number_large, number_end, number_empty, number_begins}
use Rattle.vector_lines.proofs.decimal.Goals as goal
use Rattle.vector_lines.proofs.decimal.Goals.{then-d-ge10-via-then-d-ge10, then-d-ge10-via-else-d-ge10+then-n-ge100000000000000000}

pub returns-then-is_empty : goal.returns-then-is_empty
returns-then-is_empty c = sym (number_empty _ (eqb-true _ _ (sym (c.if-is_empty.ensures))))

pub loop-b-init : goal.loop-b-init
loop-b-init c =
    let h : 0 < length c.args.s.now = omega (arith, eqb-false _ _ (sym (c.if-is_empty.ensures))) in
    (omega arith, sym (number_begins _ h))

pub returns-in_err-digit : goal.returns-in_err-digit
returns-in_err-digit c =
    let d = digit_none _ (c.in_err-digit.ensures) in
    c.from_residual.ensures ∙ sym (number_bad _ _ _ _ c.loop-b-test.true refl (omega (arith, d))) ∙ c.loop-b.invariant.1

pub returns-then-d-ge10 : goal.returns-then-d-ge10
returns-then-d-ge10 c =
    let d = c.from-d.ensures ∙ digit_some _ _ (c.in_ok-digit.ensures) in
    let bad : number_from c.loop-b.n (drop c.loop-b.b-index c.args.s.now) ≡ None = elim c.then-d-ge10.branch [
      | then-d-ge10-via-then-d-ge10 w ↦ number_bad _ _ _ _ c.loop-b-test.true d w.if-d-ge10.true
      | then-d-ge10-via-else-d-ge10+then-n-ge100000000000000000 w ↦ number_large _ _ _ _ c.loop-b-test.true d w.if-d-ge10.false w.if-n-ge100000000000000000.true
    ] in
    sym bad ∙ c.loop-b.invariant.1

pub loop-b-preserved : goal.loop-b-preserved
loop-b-preserved c =
    let d = c.from-d.ensures ∙ digit_some _ _ (c.in_ok-digit.ensures) in
    (omega arith, number_more _ _ _ _ c.loop-b-test.true d c.if-d-ge10.false c.if-n-ge100000000000000000.false ∙ c.loop-b.invariant.1)

pub returns : goal.returns
returns c = sym (number_end _ _ _ c.loop-b-test.false) ∙ c.loop-b.invariant.1
