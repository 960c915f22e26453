-- Each byte in turn.
use Rattle.std.proofs.Common.{rules, tests, List, [], ◌∷◌, ◌++◌, ◌≡◌, ◌∙◌, sym, refl, ◌&&◌, true, false, ◌==◌, ℕ, Bool}
use Rattle.std.proofs.lemmas.Fn.{fronts, fold_over, slice_gives}
use Rattle.std.proofs.lemmas.List.Folds.{list_all-append}
use Rattle.vector_lines.specs.Throughout.{all_are}
use Rattle.vector_lines.proofs.is_filled.Goals as goal

and_true : (b : Bool) → b && true ≡ b
and_true true = refl
and_true false = refl

all_more : (byte : ℕ) (s : List ℕ) (b : ℕ) → all_are byte s && (b == byte) ≡ all_are byte (s ++ (b ∷ []))
all_more byte s b = sym (list_all-append (λ b. b == byte) s (b ∷ []) ∙ rw (and_true (b == byte)) refl)

pub returns : goal.returns
returns c =
    let J : List ℕ → Bool → Type 0 = λ ys s. s ≡ all_are c.args.byte ys in
    let e = fold_over fronts (λ y. y.now) _ J _
    (λ ys s x t f' j k.
    let h : t ≡ s && (x.now == c.args.byte) = search (rules, tests) in
    (h ∙ rw j (all_more c.args.byte ys x.now), search (rules, tests))) _ _ _ _ (slice_gives c.iter.result) refl c.fold.ensures.ran in
    rw c.iter.ensures.rest at e
