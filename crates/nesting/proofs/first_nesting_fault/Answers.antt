-- Where every node ends within its cap there is no fault; else the links find the smallest.
use Rattle.table_laws.specs.First.{first_none}
use Rattle.std.proofs.Math.ListN.{get_or-replicate}
use Rattle.std.proofs.Common.{arith, rules}
use Rattle.nesting.proofs.first_nesting_fault.Goals as goal

pub is_nested-requires : goal.is_nested-requires
is_nested-requires c = (c.requires, record { size = search rules; none = λ m h. get_or-replicate 8193 m 0 0 (omega arith) })

pub returns-then-is_nested-clause-place : goal.returns-then-is_nested-clause-place
returns-then-is_nested-clause-place c = first_none (c.is_nested.ensures c.if-is_nested.true)
