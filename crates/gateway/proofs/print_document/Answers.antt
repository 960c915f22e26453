-- A number that is no switch is refused, and otherwise the answer is that of `document::print_document`.
use Rattle.std.proofs.Common.{sym, ◌∙◌}
use Rattle.std.proofs.lemmas.Result.{err_from_is_err_and}
use Rattle.gateway.specs.Switches.{no_such_breaks_for_documents, breaks_tell}
use Rattle.gateway.proofs.print_document.Goals as goal

pub returns-in_err-settings_of : goal.returns-in_err-settings_of
returns-in_err-settings_of c =
    let why = c.in_err-settings_of.ensures in
    let e = err_from_is_err_and c.from_residual.result c.from_residual.ensures.1 in
    rw (e.1, e.2, why.1) (sym (no_such_breaks_for_documents _ _ _ _ _ _ why.0))

pub returns : goal.returns
returns c =
    let said = c.in_ok-settings_of.ensures in
    rw said.1 at c.print_document.ensures ∙ sym (breaks_tell _ _ _ _ _ _ said.0)
