-- The answer is that of `check_table::check_table`.
use Rattle.gateway.specs.Numbers.{told_place}
use Rattle.gateway.proofs.dervisclo_check_table.Goals as goal

pub returns : goal.returns
returns c = told_place c.check_table.ensures c.tell.ensures
