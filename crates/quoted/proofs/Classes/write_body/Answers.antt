-- What is left to write is the body of `value` from there on: the run up to the next escape, the escape, and the body behind it.
use Rattle.std.proofs.Common.{◌≤◌, ◌<◌, length, arith, refl, rules}
use Rattle.pen.specs.Wrote.{left_step, left_done, left_as}
use Rattle.quoted.specs.CleanRun.{run_within, run_ends, body_run, body_escape, body_over}
use Rattle.quoted.proofs.Classes.write_body.Goals as goal

pub slice_bounds-write-end : goal.slice_bounds-write-end
slice_bounds-write-end c = omega (arith, run_within _ _ _ c.next_escape-escape.ensures c.loop-escape.invariant.0)

pub write_escape-requires : goal.write_escape-requires
write_escape-requires c =
    let w = run_within _ _ _ c.next_escape-escape.ensures c.loop-escape.invariant.0 in
    run_ends _ _ _ c.next_escape-escape.ensures (omega (arith, w))

pub loop-escape-preserved : goal.loop-escape-preserved
loop-escape-preserved c =
    let w = run_within _ _ _ c.next_escape-escape.ensures c.loop-escape.invariant.0 in
    let h : c.next_escape-escape.result < length c.args.value.now = omega (arith, w) in
    let l = left_step (left_as c.loop-escape.invariant.1 (body_run _ _ _ c.next_escape-escape.ensures)) c.write.ensures in
    (omega arith, left_step (left_as l (body_escape _ _ h)) c.write_escape.ensures)

pub returns : goal.returns
returns c =
    let h : length c.args.value.now ≤ c.next_escape-escape.result = omega arith in
    let l = left_step (left_as c.loop-escape.invariant.1 (body_run _ _ _ c.next_escape-escape.ensures)) c.write.ensures in
    let w = left_done (left_as l (body_over _ _ h)) in
    record { ink = search (rules, w.ink); same = refl }
