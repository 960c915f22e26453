-- `leaves::location` meets its contract: the word of each variant.
use Rattle.std.proofs.Common.{arith}
use Rattle.layout.specs.Did.{did_chosen, did_none_chosen}
use Rattle.leaves.proofs.location.Goals as goal

pub returns-in-0 : goal.returns-in-0
returns-in-0 c = λ p s at. did_chosen _ c.variant.ensures.is 0 c.in-0.is c.write.ensures

pub returns-in-1 : goal.returns-in-1
returns-in-1 c = λ p s at. did_chosen _ c.variant.ensures.is 1 c.in-1.is c.write-in-1.ensures

pub returns-in-2 : goal.returns-in-2
returns-in-2 c = λ p s at. did_chosen _ c.variant.ensures.is 2 c.in-2.is c.write-in-2.ensures

pub returns-in-3 : goal.returns-in-3
returns-in-3 c = λ p s at. did_chosen _ c.variant.ensures.is 3 c.in-3.is c.write-in-3.ensures

pub returns-in-4 : goal.returns-in-4
returns-in-4 c = λ p s at. did_chosen _ c.variant.ensures.is 4 c.in-4.is c.write-in-4.ensures

pub returns-in-5 : goal.returns-in-5
returns-in-5 c = λ p s at. did_chosen _ c.variant.ensures.is 5 c.in-5.is c.write-in-5.ensures

pub returns-in-6 : goal.returns-in-6
returns-in-6 c = λ p s at. did_chosen _ c.variant.ensures.is 6 c.in-6.is c.write-in-6.ensures

pub returns-in-7 : goal.returns-in-7
returns-in-7 c = λ p s at. did_chosen _ c.variant.ensures.is 7 c.in-7.is c.write-in-7.ensures

pub returns-in-8 : goal.returns-in-8
returns-in-8 c = λ p s at. did_chosen _ c.variant.ensures.is 8 c.in-8.is c.write-in-8.ensures

pub returns-in-9 : goal.returns-in-9
returns-in-9 c = λ p s at. did_chosen _ c.variant.ensures.is 9 c.in-9.is c.write-in-9.ensures

pub returns-in-10 : goal.returns-in-10
returns-in-10 c = λ p s at. did_chosen _ c.variant.ensures.is 10 c.in-10.is c.write-in-10.ensures

pub returns-in-11 : goal.returns-in-11
returns-in-11 c = λ p s at. did_chosen _ c.variant.ensures.is 11 c.in-11.is c.write-in-11.ensures

pub returns-in-12 : goal.returns-in-12
returns-in-12 c = λ p s at. did_chosen _ c.variant.ensures.is 12 c.in-12.is c.write-in-12.ensures

pub returns-in-13 : goal.returns-in-13
returns-in-13 c = λ p s at. did_chosen _ c.variant.ensures.is 13 c.in-13.is c.write-in-13.ensures

pub returns-in-14 : goal.returns-in-14
returns-in-14 c = λ p s at. did_chosen _ c.variant.ensures.is 14 c.in-14.is c.write-in-14.ensures

pub returns-in-15 : goal.returns-in-15
returns-in-15 c = λ p s at. did_chosen _ c.variant.ensures.is 15 c.in-15.is c.write-in-15.ensures

pub returns-in-16 : goal.returns-in-16
returns-in-16 c = λ p s at. did_chosen _ c.variant.ensures.is 16 c.in-16.is c.write-in-16.ensures

pub returns-in-17 : goal.returns-in-17
returns-in-17 c = λ p s at. did_chosen _ c.variant.ensures.is 17 c.in-17.is c.write-in-17.ensures

pub returns-in-18 : goal.returns-in-18
returns-in-18 c = λ p s at. did_chosen _ c.variant.ensures.is 18 c.in-18.is c.write-in-18.ensures

pub returns-in_default : goal.returns-in_default
returns-in_default c = λ p s at. did_none_chosen _ c.variant.ensures.is (omega arith)
