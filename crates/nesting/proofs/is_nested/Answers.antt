use Rattle.std.proofs.Common.{arith}
use Rattle.nesting.proofs.Caps.{no_crossing}
use Rattle.nesting.proofs.is_nested.Goals as goal

pub returns : goal.returns
returns c e k l = no_crossing c.loop-i.invariant (omega arith) k (c.requires.0.within k l)
