-- Texts are the same exactly if the library's equality of slices says so, and no text is the one with no bytes.
use Rattle.std.proofs.Common.{◌≡◌, refl, sym, ap, arith, ◌&&◌, List, [], ◌∷◌, ℕ, eqb, length, bytes_eq}
use Rattle.std.specs.Bool.{◌==◌}
use Rattle.std.proofs.lemmas.Bool.{ne_eqb}
use Rattle.meaning.specs.Text.{same}

pub same_by_equality : (s t : List ℕ) → same s t ≡ bytes_eq s t
unfolding same
same_by_equality [] [] = refl
same_by_equality [] (c ∷ t) = refl
same_by_equality (b ∷ s) [] = refl
same_by_equality (b ∷ s) (c ∷ t) = ap (λ x. eqb b c && x) (same_by_equality s t)

pub same_as_nothing : (s : List ℕ) → same s [] ≡ (length s == 0)
unfolding same
same_as_nothing [] = refl
same_as_nothing (b ∷ s) = sym (ne_eqb (length (b ∷ s)) 0 (λ e. omega arith))
