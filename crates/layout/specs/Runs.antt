-- The leading children of a class: there is none where the next child is not of it, else the next child and those after it.
use Rattle.std.specs.Prelude.{◌≡◌, refl, true, false, List, [], ◌∷◌, ℕ, ◌≤◌, ◌<◌, ltb}
use Rattle.std.proofs.Common.{ap, sym, ◌∙◌, arith, ltb-true}
use Rattle.std.proofs.Math.Decide.{dec_lt}
use Rattle.base.specs.Bools.{and_left}
use Rattle.meaning.specs.Table.{kind_at, variant_at, end_at, head_at}
use Rattle.meaning.specs.Children.{Class, is_in, run, past}
use Rattle.meaning.specs.Layout.{Child, child_in}
use Rattle.layout.specs.Kids.{kids, kids_none, kids_more, child_at, next_is, next_some}
use Rattle.layout.specs.Jobs.{Ranged}

run_over : (c : Class) (x : Child) (xs : List Child) → child_in c x ≡ false → run child_in c (x ∷ xs) ≡ []
unfolding run
run_over c x xs z = rw z

past_over : (c : Class) (x : Child) (xs : List Child) → child_in c x ≡ false → past child_in c (x ∷ xs) ≡ x ∷ xs
unfolding past
past_over c x xs z = rw z

run_one : (c : Class) (x : Child) (xs : List Child) → child_in c x ≡ true → run child_in c (x ∷ xs) ≡ x ∷ run child_in c xs
unfolding run
run_one c x xs z = rw z

past_one : (c : Class) (x : Child) (xs : List Child) → child_in c x ≡ true → past child_in c (x ∷ xs) ≡ past child_in c xs
unfolding past
past_one c x xs z = rw z

run_empty : (c : Class) → run child_in c [] ≡ []
unfolding run
run_empty c = refl

past_empty : (c : Class) → past child_in c [] ≡ []
unfolding past
past_empty c = refl

child_in_lem : (w p : List ℕ) (i : ℕ) (c : Class) → child_in c (child_at w p i) ≡ is_in c (kind_at w i) (variant_at w i)
unfolding child_in head_at
child_in_lem w p i c = refl

-- a child that is of a class is there
pub next_is_there : (w : List ℕ) (c : Class) (i e : ℕ) → next_is w c i e ≡ true → i < e
unfolding next_is
next_is_there w c i e z = ltb-true i e (and_left (ltb i e) _ z)

module _ {w p : List ℕ} {i e : ℕ} (j : Ranged w p i e) (c : Class) where
  module _ (z : next_is w c i e ≡ true) where
    there : i < e
    there = next_is_there w c i e z

    is_in_lem : child_in c (child_at w p i) ≡ true
    is_in_lem = child_in_lem w p i c ∙ sym (next_some w c there) ∙ z

    pub run_more : run child_in c (kids w p i e) ≡ child_at w p i ∷ run child_in c (kids w p (end_at w i) e)
    run_more = ap (run child_in c) (kids_more j.shaped j.range there) ∙ run_one c _ _ is_in_lem

    pub past_more : past child_in c (kids w p i e) ≡ past child_in c (kids w p (end_at w i) e)
    past_more = ap (past child_in c) (kids_more j.shaped j.range there) ∙ past_one c _ _ is_in_lem

  module _ (z : next_is w c i e ≡ false) where
    pub run_none : run child_in c (kids w p i e) ≡ []
    run_none =
        elim (dec_lt i e) [
          | yes l ↦
              ap (run child_in c) (kids_more j.shaped j.range l)
              ∙ run_over c _ _ (child_in_lem w p i c ∙ sym (next_some w c l) ∙ z)
          | no l ↦ let h : e ≤ i = omega arith in ap (run child_in c) (kids_none w p h) ∙ run_empty c
        ]

    pub past_none : past child_in c (kids w p i e) ≡ kids w p i e
    past_none =
        elim (dec_lt i e) [
          | yes l ↦
              let m = kids_more j.shaped j.range l in
              ap (past child_in c) m ∙ past_over c _ _ (child_in_lem w p i c ∙ sym (next_some w c l) ∙ z) ∙ sym m
          | no l ↦ let h : e ≤ i = omega arith in let m = kids_none w p h in ap (past child_in c) m ∙ past_empty c ∙ sym m
        ]
