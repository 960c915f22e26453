-- The answer is that of `reader::read_literal`, taken apart.
use Rattle.std.proofs.Common.{refl}
use Rattle.gateway.specs.Numbers.{told_form_by}
use Rattle.gateway.proofs.dervisclo_read_literal.Goals as goal

pub returns-in-Ok : goal.returns-in-Ok
returns-in-Ok c = told_form_by c.in-Ok.ensures refl refl c.form_number.ensures

pub returns-in-Err : goal.returns-in-Err
returns-in-Err c = told_form_by c.in-Err.ensures c.number.ensures c.needed.ensures refl
