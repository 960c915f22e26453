-- `read_block::run_length`: the place and the bytes from there to the end of the run always add up to the same.
use Rattle.std.proofs.Common.{◌≡◌, sym, ◌∙◌, arith, ◌<◌, length}
use Rattle.std.proofs.lemmas.List.{take_rest}
use Rattle.read_block_laws.specs.Plain.{run_goes_on}
use Rattle.read_block_laws.specs.Counts.{no_run_left, run_one_more, run_ends_here}
use Rattle.read_block.proofs.run_length.Goals as goal

pub loop-i-init : goal.loop-i-init
loop-i-init c = omega (arith, run_goes_on _ 0 _ c.plain_length-i.ensures)

pub returns-then-stops-clause-value : goal.returns-then-stops-clause-value
returns-then-stops-clause-value c =
    let h : c.loop-i.i < length c.args.s.now = omega arith in
    sym (run_ends_here _ _ h (rw take_rest at (sym c.stops.ensures ∙ c.if-stops.true))) ∙ c.loop-i.invariant

pub loop-i-preserved : goal.loop-i-preserved
loop-i-preserved c =
    let h : c.loop-i.i < length c.args.s.now = omega arith in
    run_one_more _ _ h (rw take_rest at (sym c.stops.ensures ∙ c.if-stops.false)) ∙ c.loop-i.invariant

pub returns-clause-value : goal.returns-clause-value
returns-clause-value c =
    let z : c.loop-i.i ≡ length c.args.s.now = omega arith in
    rw (← z) (sym (no_run_left _ _ (omega arith)) ∙ c.loop-i.invariant)
