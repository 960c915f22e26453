-- A number that is no switch is refused, and otherwise the answer is that of `literal::print_literal`.
use Rattle.std.proofs.Common.{sym, ◌∙◌}
use Rattle.std.proofs.lemmas.Result.{err_from_is_err_and}
use Rattle.gateway.specs.Switches.{no_such_breaks, no_such_kind, switches_tell}
use Rattle.gateway.proofs.print_literal.Goals as goal

pub returns-in_err-settings : goal.returns-in_err-settings
returns-in_err-settings c =
    let why = c.in_err-settings.ensures in
    let e = err_from_is_err_and c.from_residual.result c.from_residual.ensures.1 in
    rw (e.1, e.2, why.1) (sym (no_such_breaks _ _ _ _ _ _ why.0))

pub returns-in_err-switch : goal.returns-in_err-switch
returns-in_err-switch c =
    let why = c.in_err-switch.ensures in
    let e = err_from_is_err_and c.from_residual-in_err-switch.result c.from_residual-in_err-switch.ensures.1 in
    rw (e.1, e.2, why.1) (sym (no_such_kind _ _ _ _ _ _ c.in_ok-settings.ensures.0 why.0))

pub returns : goal.returns
returns c =
    let said = c.in_ok-settings.ensures in
    let on = c.in_ok-switch.ensures in
    rw (said.1, on.1) at c.print_literal.ensures ∙ sym (switches_tell _ _ _ _ _ _ said.0 on.0)
