-- `Class::holds` meets its contract: a test for each class; a number that is no kind's is in none.
use Rattle.std.proofs.Common.{ap, ◌∙◌}
use Rattle.layout.specs.Classes.{is_selection, is_value, kind_tells, selection_tells, value_tells, no_selection, no_value}
use Rattle.layout.proofs.Class.holds.Goals as goal

pub returns-in-Kind : goal.returns-in-Kind
returns-in-Kind c = λ v. rw (c.in-Kind.is, c.number.ensures) (kind_tells _ v _)

pub returns-in-Number : goal.returns-in-Number
returns-in-Number c = λ v. rw c.in-Number.is (kind_tells _ v _)

pub returns-in-Ok : goal.returns-in-Ok
returns-in-Ok c = λ v. rw c.in-Selection.is (c.is_selection.ensures ∙ ap is_selection c.in-Ok.ensures ∙ selection_tells _ v)

pub returns-in-Err : goal.returns-in-Err
returns-in-Err c = λ v. rw c.in-Selection.is (no_selection _ v c.in-Err.ensures.0)

pub returns-in-Ok-try_from : goal.returns-in-Ok-try_from
returns-in-Ok-try_from c = λ v. rw c.in-Value.is (c.is_value.ensures ∙ ap is_value c.in-Ok-try_from.ensures ∙ value_tells _ v)

pub returns-in-Err-try_from : goal.returns-in-Err-try_from
returns-in-Err-try_from c = λ v. rw c.in-Value.is (no_value _ v c.in-Err-try_from.ensures.0)
