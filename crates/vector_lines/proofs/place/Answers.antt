-- `position` tells the first place, if any.
use Rattle.std.proofs.Common.{◌==◌, ap, ◌∙◌, length, rules, tests}
use Rattle.std.specs.Option.{unwrap_or}
use Rattle.std.proofs.lemmas.Iterator.{YieldsList-from_slice}
use Rattle.std.proofs.lemmas.Iterator.Search.{position_from_yields_List}
use Rattle.vector_lines.proofs.Parts.{or_length}
use Rattle.vector_lines.proofs.place.Goals as goal

pub returns-clause-first : goal.returns-clause-first
returns-clause-first c =
    let found = position_from_yields_List (λ b. b == c.args.stop) _ _ c.position.result c.position.ensures.ran (YieldsList-from_slice c.args.s.now cc) (λ x b q k. search (rules, tests)) in
    c.unwrap_or.ensures ∙ ap (λ o. unwrap_or o (length c.args.s.now)) found ∙ or_length (λ b. b == c.args.stop) c.args.s.now
