-- `read_block::plain_length` passes over no mark: each sixteen bytes that it counts hold none.
use Rattle.std.proofs.Common.{◌≡◌, ◌∙◌, ◌/◌, ℕ, List, not, length, arith, rules, tests}
use Rattle.std.proofs.lemmas.Iterator.{YieldsList-from_slice}
use Rattle.std.proofs.lemmas.Iterator.Consumers.{count_from_yields_List}
use Rattle.std.proofs.lemmas.Iterator.Search.{YieldsList-from_take_while}
use Rattle.std.proofs.lemmas.List.Folds.{length-prefix_len}
use Rattle.std.specs.List.{prefix_len}
use Rattle.std.specs.Simd.{first_chunks}
use Rattle.read_block_laws.specs.Plain.{marked}
use Rattle.read_block.proofs.Fronts.{plain_strides}
use Rattle.read_block.proofs.plain_length.Goals as goal

pub returns : goal.returns
returns c =
    let s = c.args.s.now in
    let test = λ (stride : List ℕ). not (marked stride) in
    let strides : List (List ℕ) = first_chunks 16 (length s / 16) s in
    let n : c.count.result ≡ prefix_len test strides = count_from_yields_List c.take_while.result _ c.count.ensures.ran
    (YieldsList-from_take_while _ test (YieldsList-from_slice strides cc) c.take_while.ensures.closure c.take_while.ensures.done (λ x b q k. search (rules, tests)))
    ∙ length-prefix_len test strides in
    rw n (plain_strides s (length s / 16) (omega arith))
