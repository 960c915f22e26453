-- The reading of characters, whatever stands for one at the front of a text: a character is read before what follows it, and the
-- closing quotes end the text.
use Rattle.std.specs.Prelude.{◌≡◌, drop}
use Rattle.std.proofs.Math.Path.{refl, ap}
use Rattle.std.proofs.Common.{sym, ◌∙◌}
use Rattle.std.proofs.Math.Option.{Option, none, some}
use mathlib.Core.List.{List, [], ◌∷◌, ◌++◌, append_assoc}
use Prim.Native.Nat.{ℕ, zero, suc}
use Rattle.meaning.specs.Reading.{Front, character, closing, prepend, nothing_more, on_front, characters}

pub prepend_nothing : (o : Option (List ℕ)) → prepend [] o ≡ o
unfolding prepend
prepend_nothing none = refl
prepend_nothing (some v) = refl

pub prepend_twice : (t u : List ℕ) (o : Option (List ℕ)) → prepend t (prepend u o) ≡ prepend (t ++ u) o
unfolding prepend
prepend_twice t u none = refl
prepend_twice t u (some v) = ap some (sym (append_assoc t u v))

pub prepend_some : (t v : List ℕ) → prepend t (some v) ≡ some (t ++ v)
unfolding prepend
prepend_some t v = refl

module _ (front : List ℕ → Front) where
  -- k bytes are passed over
  passed_over : (k : ℕ) (s : List ℕ) → characters front k s ≡ characters front 0 (drop k s)
  unfolding characters
  passed_over zero s = refl
  passed_over (suc k) [] = refl
  passed_over (suc k) (b ∷ s) = passed_over k s

  by_front : (f : Front) (b : ℕ) (s : List ℕ) → front (b ∷ s) ≡ f
      → characters front 0 (b ∷ s) ≡ on_front f s (λ k. characters front k s)
  unfolding characters
  by_front f b s e = rw e

  -- a character of 1 + k bytes that stands for t
  pub character_read : (t : List ℕ) (k b : ℕ) (s : List ℕ) → front (b ∷ s) ≡ character t k
      → characters front 0 (b ∷ s) ≡ prepend t (characters front 0 (drop k s))
  character_read t k b s e = by_front (character t k) b s e ∙ (unfold on_front in ap (prepend t) (passed_over k s))

  -- closing quotes of 1 + k bytes
  pub closing_read : (k b : ℕ) (s : List ℕ) → front (b ∷ s) ≡ closing k → characters front 0 (b ∷ s) ≡ nothing_more (drop k s)
  closing_read k b s e = by_front (closing k) b s e ∙ (unfold on_front in refl)
