-- The library's characters, their bytes and the values of digits, beside those of the definitions.
use Rattle.std.proofs.Common.{◌≡◌, refl, sym, arith, [], ◌∷◌, ℕ, ◌+◌, ◌*◌, ◌<◌, Option, Some, None, inl, inr}
use Rattle.std.specs.Char.{encode_utf8, IsScalar, InScalarRange, OutOfScalarRange}
use Rattle.std.specs.Option.{MatchOption, SomeIff}
use Rattle.meaning.specs.Utf8.{encoded}
use Rattle.meaning.specs.Reading.{hex_value, unicode_escape, wrong}
use Rattle.read_quoted.specs.Escapes.{Digits, front_of, first_is_no_digit, second_is_no_digit, third_is_no_digit, fourth_is_no_digit, surrogate_is_wrong, below_surrogates, past_surrogates}

pub same_bytes : (c : ℕ) → encode_utf8 c ≡ encoded c
unfolding encoded encode_utf8
same_bytes c = refl

-- four bytes behind a `u`
module _ (a b c d : ℕ) where
  four : Digits (0 ∷ a ∷ b ∷ c ∷ d ∷ []) 0 (hex_value a) (hex_value b) (hex_value c) (hex_value d)
  four = record { room = omega arith; first = refl; second = refl; third = refl; fourth = refl }

  pub no_first : 16 ≡ hex_value a → wrong ≡ unicode_escape (a ∷ b ∷ c ∷ d ∷ [])
  no_first h = sym (first_is_no_digit four (omega (arith, h)))

  pub no_second : 16 ≡ hex_value b → wrong ≡ unicode_escape (a ∷ b ∷ c ∷ d ∷ [])
  no_second h = sym (second_is_no_digit four (omega (arith, h)))

  pub no_third : 16 ≡ hex_value c → wrong ≡ unicode_escape (a ∷ b ∷ c ∷ d ∷ [])
  no_third h = sym (third_is_no_digit four (omega (arith, h)))

  pub no_fourth : 16 ≡ hex_value d → wrong ≡ unicode_escape (a ∷ b ∷ c ∷ d ∷ [])
  no_fourth h = sym (fourth_is_no_digit four (omega (arith, h)))

  -- what four digits write, of which the library makes the character r, or none
  pub number_read : (n : ℕ) (r : Option ℕ) → n ≡ ((hex_value a * 16 + hex_value b) * 16 + hex_value c) * 16 + hex_value d
      → hex_value a < 16 → hex_value b < 16 → hex_value c < 16 → hex_value d < 16
      → MatchOption r (OutOfScalarRange n) (λ x. InScalarRange n) → SomeIff r (IsScalar n) n
      → front_of r 5 ≡ unicode_escape (a ∷ b ∷ c ∷ d ∷ [])
  number_read n None e p q s t (inl o) v = sym (surrogate_is_wrong four (omega (arith, o, e)) (omega (arith, o, e)))
  number_read n None e p q s t (inr o) v = absurd (omega (arith, o, e))
  number_read n (Some m) e p q s t (inl o) v =
      rw (v.1, e) (sym (below_surrogates four (omega arith) (omega arith) (omega arith) (omega arith) (omega (arith, o, e))).means)
  number_read n (Some m) e p q s t (inr o) v =
      rw (v.1, e) (sym (past_surrogates four (omega arith) (omega arith) (omega arith) (omega arith) (omega (arith, o, e))).means)
