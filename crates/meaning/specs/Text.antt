-- Document 01, "Refusal numbers", row 7: names, numbers and other text.
use Rattle.std.specs.Prelude.{Bool, true, false, not, ◌&&◌, ◌||◌, List, [], ◌∷◌, ℕ, eqb, if◌then◌else◌}
use Rattle.std.proofs.Math.Option.{Option, none, some}
use Rattle.meaning.specs.Ascii.{ascii}
use Rattle.meaning.specs.Utf8.{utf8}
use Rattle.meaning.specs.Children.{TextRule, no_text, name, name_or_empty, fragment_name, enum_name, float, int, any_text, from◌to◌}

-- ---- names: `[_A-Za-z][_0-9A-Za-z]*`

unfoldable pub is_digit : ℕ → Bool
is_digit b = from◌to◌ 0x30 0x39 b

unfoldable pub starts_name : ℕ → Bool
starts_name b = eqb b 0x5F || (from◌to◌ 0x41 0x5A b || from◌to◌ 0x61 0x7A b)

unfoldable pub goes_on_name : List ℕ → Bool
unfolding is_digit starts_name
goes_on_name [] = true
goes_on_name (b ∷ s) = (starts_name b || is_digit b) && goes_on_name s

unfoldable pub is_name : List ℕ → Bool
unfolding starts_name goes_on_name
is_name [] = false
is_name (b ∷ s) = starts_name b && goes_on_name s

-- ---- the specification's IntValue and FloatValue: each part answers what follows it

unfoldable pub past_digits : List ℕ → List ℕ
unfolding is_digit
past_digits [] = []
past_digits (b ∷ s) = let s' = past_digits s in if is_digit b then s' else b ∷ s

-- Digit+
unfoldable pub digits : List ℕ → Option (List ℕ)
unfolding past_digits
digits [] = none
digits (b ∷ s) = if is_digit b then some (past_digits s) else none

-- `0`, or NonZeroDigit Digit*
unfoldable pub unsigned : List ℕ → Option (List ℕ)
unfolding digits
unsigned [] = none
unsigned (b ∷ s) = if eqb b 0x30 then some s else digits (b ∷ s)

-- IntegerPart: NegativeSign? and such digits
unfoldable pub integer_part : List ℕ → Option (List ℕ)
unfolding unsigned
integer_part [] = none
integer_part (b ∷ s) = if eqb b 0x2D then unsigned s else unsigned (b ∷ s)

-- FractionalPart: `.` Digit+
unfoldable pub fractional_part : List ℕ → Option (List ℕ)
unfolding digits
fractional_part [] = none
fractional_part (b ∷ s) = if eqb b 0x2E then digits s else none

-- Sign? Digit+
unfoldable pub signed_digits : List ℕ → Option (List ℕ)
unfolding digits
signed_digits [] = none
signed_digits (b ∷ s) = if eqb b 0x2B || eqb b 0x2D then digits s else digits (b ∷ s)

-- ExponentPart: `e` or `E`, Sign? Digit+
unfoldable pub exponent_part : List ℕ → Option (List ℕ)
unfolding signed_digits
exponent_part [] = none
exponent_part (b ∷ s) = if eqb b 0x65 || eqb b 0x45 then signed_digits s else none

infixl 20 ◌⨾◌
abbrev pub ◌⨾◌ : Option (List ℕ) → (List ℕ → Option (List ℕ)) → Option (List ℕ)
◌⨾◌ none part = none
◌⨾◌ (some s) part = part s

-- nothing follows
abbrev pub ends : Option (List ℕ) → Bool
ends none = false
ends (some []) = true
ends (some (b ∷ s)) = false

unfoldable pub is_int : List ℕ → Bool
unfolding integer_part
is_int s = ends (integer_part s)

unfoldable pub is_float : List ℕ → Bool
unfolding integer_part fractional_part exponent_part
is_float s =
    ends (integer_part s ⨾ fractional_part ⨾ exponent_part)
    || (ends (integer_part s ⨾ fractional_part) || ends (integer_part s ⨾ exponent_part))

-- ---- the text of a kind

unfoldable pub same : List ℕ → List ℕ → Bool
same [] [] = true
same [] (c ∷ t) = false
same (b ∷ s) [] = false
same (b ∷ s) (c ∷ t) = eqb b c && same s t

-- "enum value (24, 37) `true`, `false` or `null`"
unfoldable pub is_reserved : List ℕ → Bool
unfolding same
is_reserved s = same s (ascii "true") || (same s (ascii "false") || same s (ascii "null"))

unfoldable pub text_fits : TextRule → List ℕ → Bool
unfolding is_name is_int is_float same is_reserved utf8
text_fits no_text s = same s []
text_fits name s = is_name s
text_fits name_or_empty s = same s [] || is_name s
text_fits fragment_name s = is_name s && not (same s (ascii "on"))
text_fits enum_name s = is_name s && not (is_reserved s)
text_fits float s = is_float s
text_fits int s = is_int s
text_fits any_text s = utf8 s
