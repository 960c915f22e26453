-- The kinds passed have their bytes.
use Rattle.std.proofs.Common.{arith, below_more, get_or-set_other, get_or-set_same}
use Rattle.table.proofs.kinds.by_kind.Goals as goal
use Rattle.table.proofs.kinds.by_kind.Goals.{in-Ok, in_default}

pub loop-number-preserved : goal.loop-number-preserved
loop-number-preserved g c =
    elim c.match-try_from.branch [
      | in-Ok w ↦
          rw w.byte-items-is
          (below_more _ _
          (λ k l. rw (get_or-set_other c.loop-number.byte-items c.loop-number.number k _ 0 (omega arith)) (c.loop-number.invariant k l))
          (w.in-Ok.kind, w.in-Ok.ensures, rw (get_or-set_same c.loop-number.byte-items c.loop-number.number _ 0 (omega arith)) w.f.ensures))
      | in_default w ↦ absurd (omega (arith, w.in_default.ensures))
    ]

pub returns : goal.returns
returns g c = λ k l. c.loop-number.invariant k (omega arith)
