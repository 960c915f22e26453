-- Three quotes at the front of a text: what they say of its bytes, and where they cannot stand.
use Rattle.std.specs.Prelude.{◌≡◌, refl, Bool, true, false, ◌&&◌, List, [], ◌∷◌, ◌++◌, ℕ, zero, suc, ◌≤◌, eqb, length, drop}
use Rattle.std.proofs.Common.{sym, ◌∙◌, arith, eqb-true}
use Rattle.base.specs.Bools.{clash, and_left, and_right, and_false, and_true}
use Rattle.meaning.specs.Ascii.{quote, triple_quote}
use Rattle.meaning.specs.Block.{three_quotes}

-- a quote stands at the front
abbrev pub quote_first : List ℕ → Bool
quote_first [] = false
quote_first (a ∷ s) = eqb a quote

-- so many quotes stand at the front
unfoldable pub quotes : ℕ → List ℕ → Bool
quotes zero s = true
quotes (suc n) [] = false
quotes (suc n) (a ∷ s) = eqb a quote && quotes n s

pub three_quotes_counted : (s : List ℕ) → three_quotes s ≡ quotes 3 s
unfolding three_quotes quotes
three_quotes_counted [] = refl
three_quotes_counted (a ∷ []) = sym (and_false (eqb a quote))
three_quotes_counted (a ∷ (b ∷ [])) = simp and_false
three_quotes_counted (a ∷ (b ∷ (c ∷ s))) = simp and_true

pub no_quotes : (n : ℕ) (s : List ℕ) → quote_first s ≡ false → quotes (suc n) s ≡ false
unfolding quotes
no_quotes n [] h = refl
no_quotes n (a ∷ s) h = rw h

pub no_quote_no_three : (s : List ℕ) → quote_first s ≡ false → three_quotes s ≡ false
no_quote_no_three s h = three_quotes_counted s ∙ no_quotes 2 s h

pub no_quote_behind_no_three : (a : ℕ) (s : List ℕ) → quote_first s ≡ false → three_quotes (a ∷ s) ≡ false
no_quote_behind_no_three a s h = three_quotes_counted (a ∷ s) ∙ (unfold quotes in rw (no_quotes 1 s h) (and_false (eqb a quote)))

pub three_quotes_are_long : (a : ℕ) (s : List ℕ) → three_quotes (a ∷ s) ≡ true → 2 ≤ length s
unfolding three_quotes
three_quotes_are_long a [] h = clash h refl
three_quotes_are_long a (b ∷ []) h = clash h refl
three_quotes_are_long a (b ∷ (c ∷ s)) h = omega arith

pub three_quotes_are : (s : List ℕ) → three_quotes s ≡ true → s ≡ triple_quote ++ drop 3 s
unfolding three_quotes
three_quotes_are [] h = clash h refl
three_quotes_are (a ∷ []) h = clash h refl
three_quotes_are (a ∷ (b ∷ [])) h = clash h refl
three_quotes_are (a ∷ (b ∷ (c ∷ s))) h =
    let k = and_right (eqb a quote) (eqb b quote && eqb c quote) h in
    rw (
      eqb-true a quote (and_left (eqb a quote) (eqb b quote && eqb c quote) h),
      eqb-true b quote (and_left (eqb b quote) (eqb c quote) k),
      eqb-true c quote (and_right (eqb b quote) (eqb c quote) k),
    )

-- a byte that is no quote, put at the end, adds no three quotes
pub three_quotes_before : (w : List ℕ) (x : ℕ) → eqb x quote ≡ false → three_quotes (w ++ (x ∷ [])) ≡ three_quotes w
unfolding three_quotes
three_quotes_before [] x h = refl
three_quotes_before (a ∷ []) x h = refl
three_quotes_before (a ∷ (b ∷ [])) x h = simp (h, and_false)
three_quotes_before (a ∷ (b ∷ (c ∷ w))) x h = refl
