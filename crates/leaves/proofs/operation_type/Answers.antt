-- `leaves::operation_type` meets its contract: the word of each variant.
use Rattle.std.proofs.Common.{arith}
use Rattle.layout.specs.Did.{did_chosen, did_none_chosen}
use Rattle.leaves.proofs.operation_type.Goals as goal

pub returns-in-0 : goal.returns-in-0
returns-in-0 c = λ p s at. did_chosen _ c.variant.ensures.is 0 c.in-0.is c.write.ensures

pub returns-in-1 : goal.returns-in-1
returns-in-1 c = λ p s at. did_chosen _ c.variant.ensures.is 1 c.in-1.is c.write-in-1.ensures

pub returns-in-2 : goal.returns-in-2
returns-in-2 c = λ p s at. did_chosen _ c.variant.ensures.is 2 c.in-2.is c.write-in-2.ensures

pub returns-in_default : goal.returns-in_default
returns-in_default c = λ p s at. did_none_chosen _ c.variant.ensures.is (omega arith)
