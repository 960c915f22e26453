-- `read_block::length_before` counts behind bytes that are no marks.
use Rattle.std.proofs.Common.{◌≡◌, refl, ◌∙◌, ℕ, List, not, drop, rules, tests}
use Rattle.std.proofs.lemmas.Iterator.{YieldsList-from_slice}
use Rattle.std.proofs.lemmas.Iterator.Consumers.{count_from_yields_List}
use Rattle.std.proofs.lemmas.Iterator.Search.{YieldsList-from_take_while}
use Rattle.std.proofs.lemmas.List.{take_rest}
use Rattle.std.proofs.lemmas.List.Folds.{length-prefix_len}
use Rattle.std.specs.List.{prefix_len}
use Rattle.read_block.proofs.length_before.Goals as goal

pub returns : goal.returns
returns g c = λ test h.
    let s = c.args.s.now in
    let i = c.plain_length-plain.result in
    let t : List ℕ = drop i s in
    let passes = λ (b : ℕ). not (test b) in
    let rest : c.iter.result.rest.now ≡ t = c.iter.ensures.rest ∙ take_rest s i in
    let n : c.count.result ≡ prefix_len passes t = count_from_yields_List c.take_while.result _ c.count.ensures.ran
    (YieldsList-from_take_while _ passes (YieldsList-from_slice t cc) c.take_while.ensures.closure c.take_while.ensures.done (λ x b q k. search (rules, tests, h)))
    ∙ length-prefix_len passes t in
    (i, (c.plain_length-plain.ensures, rw n refl))
