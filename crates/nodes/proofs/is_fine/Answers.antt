-- The tests are those of the definition, with a kind's variants and whether it takes text read from the tables.
use Rattle.std.proofs.Common.{arith}
use Rattle.std.proofs.lemmas.Grind.{common_steps}
use Rattle.meaning.specs.Refusals.{kind_fault, place_fault, end_fault, node_fault}
use Rattle.nodes.proofs.is_fine.Goals as goal

pub returns : goal.returns
unfolding node_fault kind_fault place_fault end_fault
returns c e =
    let k = c.kind_number-kind.result in
    let variants = c.args.kinds.now.variants_right.each k (omega arith) in
    let textless = c.args.kinds.now.textless_right.each k (omega arith) in
    grind (arith, common_steps)
