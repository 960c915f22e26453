-- The search of the nodes from the first on finds the smallest with the fault.
use Rattle.std.proofs.Common.{rules, tests, arith, sym, ◌∙◌}
use Rattle.std.proofs.lemmas.Iterator.{YieldsList-from_range, YieldsList-from_map}
use Rattle.std.proofs.lemmas.Iterator.Adapters.{option_map_id}
use Rattle.std.proofs.lemmas.Iterator.Search.{find_from_yields_List}
use Rattle.meaning.specs.Refusals.{text_fault}
use Rattle.table.specs.First.{found_first}
use Rattle.texts.proofs.first_text_fault.Goals as goal

pub returns-clause-place : goal.returns-clause-place
returns-clause-place c =
    let f = text_fault c.args.table.now.words.now c.args.table.now.pool.now in
    found_first f c.args.n c.find.result
    (sym (option_map_id _)
    ∙ find_from_yields_List (λ i. f i.0) _ _ c.find.result c.find.ensures.ran
    (YieldsList-from_map _ (λ i. record { 0 = i }) (YieldsList-from_range 0 c.args.n c.args.n c.map.ensures.source (omega arith)) c.map.ensures.closure (λ x r q k. search rules))
    (λ x b q k. search (rules, tests)))
