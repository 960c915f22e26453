-- Behind the end there is no run.
use Rattle.std.proofs.Common.{arith, ◌≤◌, length}
use Rattle.quoted.specs.CleanRun.{run_over, run_length_lem}
use Rattle.quoted.proofs.Classes.next_escape.Goals as goal

pub overflow_add-result : goal.overflow_add-result
overflow_add-result c = grind (arith, c.in-Some.ensures, run_length_lem c.in-Some.rest.now, c.clean_run.ensures)

pub returns-in-None : goal.returns-in-None
returns-in-None c =
    let h : length c.args.value.now ≤ c.args.from = grind (arith, c.in-None.ensures) in
    run_over _ _ h
