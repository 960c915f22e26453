-- Each byte in turn.
use Rattle.std.proofs.Common.{rules, tests, List, ◌≡◌, ◌∙◌, refl, ◌||◌, eqb, ℕ, Bool}
use Rattle.std.proofs.lemmas.Fn.{fronts, fold_over, slice_gives}
use Rattle.meaning.specs.Block.{has}
use Rattle.block.specs.Places.{has_more}
use Rattle.block.proofs.contains.Goals as goal

pub returns : goal.returns
unfolding has
returns c =
    let J : List ℕ → Bool → Type 0 = λ ys s. s ≡ has c.args.byte ys in
    let e = fold_over fronts (λ y. y.now) _ J _
    (λ ys s x t f' j k.
    let h : t ≡ s || eqb x.now c.args.byte = search (rules, tests) in
    (h ∙ rw j (has_more c.args.byte ys x.now), search (rules, tests))) _ _ _ _ (slice_gives c.iter.result) refl c.fold.ensures.ran in
    rw c.iter.ensures.rest at e
