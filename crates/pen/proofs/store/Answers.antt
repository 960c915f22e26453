-- What is left to store is `bytes` from i on, at the place i further. The loop ends where `bytes` or `out` does, and then storing the
-- rest changes nothing.
use Rattle.std.proofs.Common.{rules, sym, ◌∙◌, arith}
use Rattle.pen.specs.Put.{store_one, store_done}
use Rattle.pen.proofs.store.Goals as goal

pub loop-i-preserved : goal.loop-i-preserved
loop-i-preserved c = (store_one _ _ _ _ (omega arith) ∙ c.loop-i.invariant.0, search rules)

pub returns : goal.returns
returns c = sym (store_done _ _ _ _ (omega arith)) ∙ c.loop-i.invariant.0
