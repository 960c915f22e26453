-- Up to `end` every byte stands for itself: the run from there on ends where the run at the front does.
use Rattle.std.proofs.Common.{sym, ◌∙◌, arith}
use Rattle.read_quoted.specs.Runs.{run_over, run_goes_on, run_stops, run_goes_on_behind, run_within}
use Rattle.read_quoted.proofs.run_length.Goals as goal

pub loop-b-init : goal.loop-b-init
loop-b-init c = omega (arith, run_goes_on_behind _ 0 _ c.next_escape-end.ensures)

pub returns-then-not-is_plain-clause-value : goal.returns-then-not-is_plain-clause-value
returns-then-not-is_plain-clause-value c =
    let b = c.in-Some.ensures.lookup.3 in
    run_stops _ _ b.0 (rw (← b.1 0) (sym c.is_plain.ensures ∙ c.if-not-is_plain.true)) ∙ c.loop-b.invariant

pub loop-b-preserved : goal.loop-b-preserved
loop-b-preserved c =
    let b = c.in-Some.ensures.lookup.3 in
    run_goes_on_behind _ _ _ c.next_escape-end-in-Some.ensures
    ∙ sym (run_goes_on _ _ b.0 (rw (← b.1 0) (sym c.is_plain.ensures ∙ c.if-not-is_plain.false)))
    ∙ c.loop-b.invariant

pub returns-clause-value : goal.returns-clause-value
returns-clause-value c = run_over _ _ c.in_default.ensures.lookup.3 ∙ c.loop-b.invariant

pub returns-clause-within : goal.returns-clause-within
returns-clause-within c = omega (arith, c.loop-b.invariant, run_within c.args.text.now)
