-- The first byte of another class is where the run ends.
use Rattle.std.proofs.Common.{rules, tests, ◌∙◌, not, eqb}
use Rattle.std.proofs.lemmas.Iterator.{YieldsList-from_slice}
use Rattle.std.proofs.lemmas.Iterator.Search.{position_from_yields_List}
use Rattle.meaning.specs.Quoted.{class}
use Rattle.quoted.specs.CleanRun.{run_from_position}
use Rattle.quoted.proofs.Classes.clean_run.Goals as goal

pub returns : goal.returns
returns c =
    let p = position_from_yields_List (λ b. not (eqb (class b) 0)) _ _ c.position.result c.position.ensures.ran (YieldsList-from_slice c.args.value.now cc) (λ x b q k. search (rules, tests)) in
    c.unwrap_or.ensures ∙ rw p (run_from_position c.args.value.now)
