-- `read_block::has_mark` tells a mark among sixteen bytes.
use Rattle.std.proofs.Common.{◌≡◌, ◌∙◌, refl, ℕ, Bool, true, false, ◌||◌, List, [], ◌∷◌, rules, tests}
use Rattle.std.specs.List.{fold}
use Rattle.std.proofs.lemmas.Iterator.{YieldsList-from_slice}
use Rattle.std.proofs.lemmas.Iterator.Consumers.{fold_from_yields_List}
use Rattle.read_block_laws.specs.Plain.{is_mark, marked}
use Rattle.read_block.proofs.has_mark.Goals as goal

found_among : (s : List ℕ) (x : Bool) → fold (λ found b. found || is_mark b) x s ≡ x || marked s
unfolding marked
found_among [] true = refl
found_among [] false = refl
found_among (b ∷ s) x = found_among s (x || is_mark b) ∙ go x
  where
    go : (x : Bool) → (x || is_mark b) || marked s ≡ x || (is_mark b || marked s)
    go true = refl
    go false = refl

pub returns : goal.returns
returns c =
    let s = c.args.stride.now in
    fold_from_yields_List _ (λ found b. found || is_mark b) false _ c.fold.ensures.ran
    (YieldsList-from_slice s cc) (λ a x b q k. search (rules, tests))
    ∙ found_among s false
