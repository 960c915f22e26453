-- `depth` counts the nodes before i that end at i or later, and closes[i] those that end at i: what is left are the nodes above i.
use Rattle.std.proofs.Common.{arith, rules}
use Rattle.std.proofs.Math.ListN.{get_or-replicate}
use Rattle.table_laws.specs.First.{first_none}
use Rattle.depth.proofs.Laws.{scan_begins, scan_more, too_deep_lem, depth_here, closed_le}
use Rattle.depth.proofs.first_depth_fault.Goals as goal

pub loop-i-init : goal.loop-i-init
loop-i-init c = scan_begins (search rules) (record { size = search rules; zeros = λ m h. get_or-replicate 8193 m 0 0 (omega arith) })

pub overflow_sub-here : goal.overflow_sub-here
overflow_sub-here c = omega (arith, depth_here c.loop-i.invariant)

pub returns-then-here-gt-DEEPEST-clause-place : goal.returns-then-here-gt-DEEPEST-clause-place
returns-then-here-gt-DEEPEST-clause-place c =
    let p = c.loop-i.invariant in
    too_deep_lem p (omega arith) (omega (arith, depth_here p))

pub overflow_add-closes : goal.overflow_add-closes
overflow_add-closes c =
    let h = c.requires.within c.loop-i.i (omega arith) in
    omega (arith, closed_le c.loop-i.invariant c.end.result (omega arith))

pub loop-i-preserved : goal.loop-i-preserved
loop-i-preserved c =
    rw c.end.ensures.is
    (scan_more c.loop-i.invariant c.requires (omega arith) (omega arith) (omega (arith, depth_here c.loop-i.invariant)))

pub returns-clause-place : goal.returns-clause-place
returns-clause-place c = first_none (λ k l. c.loop-i.invariant.shallow k (omega arith))
