use Rattle.std.proofs.Common.{arith, refl, rules, ◌-◌, ◌+◌}
use Rattle.pen.specs.Wrote.{left_step, left_done, left_as}
use Rattle.pen.specs.Times.{times_one, times_none}
use Rattle.pen.proofs.Pen.write_times.Goals as goal

pub loop-preserved : goal.loop-preserved
loop-preserved c = left_step (left_as c.loop.invariant (times_one _ (c.args.count - (c.loop.counter + 1)) _ (omega arith))) c.write.ensures

pub returns : goal.returns
returns c =
    let w = left_done (left_as c.loop.invariant (times_none _ _ (omega arith))) in
    record { ink = search (rules, w.ink); same = refl }
