-- Four bytes are looked at by their values: each has to be a digit's, and the number that they write no surrogate.
use Rattle.std.proofs.Common.{◌≡◌, arith}
use Rattle.meaning.specs.Reading.{hex_value}
use Rattle.read_quoted.proofs.Characters.{no_first, no_second, no_third, no_fourth, number_read}
use Rattle.read_quoted.proofs.unicode_escape.Goals as goal

pub returns-in_err-hex_value-clause-value : goal.returns-in_err-hex_value-clause-value
returns-in_err-hex_value-clause-value c =
    rw c.from_residual.ensures (no_first _ _ _ _ (rw c.in_err-hex_value.was at c.hex_value.ensures.value))

pub returns-in_err-hex_value-2-clause-value : goal.returns-in_err-hex_value-2-clause-value
returns-in_err-hex_value-2-clause-value c =
    rw c.from_residual-in_err-hex_value-2.ensures (no_second _ _ _ _ (rw c.in_err-hex_value-2.was at c.hex_value-2.ensures.value))

pub returns-in_err-hex_value-3-clause-value : goal.returns-in_err-hex_value-3-clause-value
returns-in_err-hex_value-3-clause-value c =
    rw c.from_residual-in_err-hex_value-3.ensures (no_third _ _ _ _ (rw c.in_err-hex_value-3.was at c.hex_value-3.ensures.value))

pub returns-in_err-number-clause-value : goal.returns-in_err-number-clause-value
returns-in_err-number-clause-value c =
    rw c.from_residual-in_err-number.ensures (no_fourth _ _ _ _ (rw c.in_err-number.was at c.hex_value-4.ensures.value))

pub returns-clause-value : goal.returns-clause-value
returns-clause-value c =
    let a : c.in_ok-hex_value.field-0 ≡ hex_value c.args.a = rw c.in_ok-hex_value.was at c.hex_value.ensures.value in
    let b : c.in_ok-hex_value-2.field-0 ≡ hex_value c.args.b = rw c.in_ok-hex_value-2.was at c.hex_value-2.ensures.value in
    let d : c.in_ok-hex_value-3.field-0 ≡ hex_value c.args.c = rw c.in_ok-hex_value-3.was at c.hex_value-3.ensures.value in
    let e : c.in_ok-number.field-0 ≡ hex_value c.args.d = rw c.in_ok-number.was at c.hex_value-4.ensures.value in
    number_read c.args.a c.args.b c.args.c c.args.d _ c.from_u32.result (omega arith)
    (rw (← a) (rw c.in_ok-hex_value.was at c.hex_value.ensures.digit))
    (rw (← b) (rw c.in_ok-hex_value-2.was at c.hex_value-2.ensures.digit))
    (rw (← d) (rw c.in_ok-hex_value-3.was at c.hex_value-3.ensures.digit))
    (rw (← e) (rw c.in_ok-number.was at c.hex_value-4.ensures.digit))
    c.from_u32.ensures.cases c.from_u32.ensures.value
