-- Document 01, "String literals": the quoted form.
use Rattle.std.specs.Prelude.{List, [], ◌∷◌, ◌++◌, ℕ, ◌+◌, ◌/◌, ◌%◌, eqb, ltb, if◌then◌else◌}
use Rattle.meaning.specs.Ascii.{tab, line_feed, carriage_return, quote, backslash}

-- the letters of escapes
abbrev pub letter_b : ℕ
letter_b = 0x62

abbrev pub letter_f : ℕ
letter_f = 0x66

abbrev pub letter_n : ℕ
letter_n = 0x6E

abbrev pub letter_r : ℕ
letter_r = 0x72

abbrev pub letter_t : ℕ
letter_t = 0x74

abbrev pub letter_u : ℕ
letter_u = 0x75

-- "Each of the 256 byte values has one class": 0 for a byte that stands for itself, else the letter after its backslash.
-- "Quoted form escapes `"`, `\`, 08 `\b`, 0A `\n`, 0C `\f`, 0D `\r`; other bytes below 20 hex, tab excepted, as `\u00XX`"
unfoldable pub class : ℕ → ℕ
class b =
    if eqb b quote then quote
    else if eqb b backslash then backslash
    else if eqb b 0x08 then letter_b
    else if eqb b line_feed then letter_n
    else if eqb b 0x0C then letter_f
    else if eqb b carriage_return then letter_r
    else if eqb b tab then 0
    else if ltb b 0x20 then letter_u
    else 0

-- "upper case"
unfoldable pub hex_digit : ℕ → ℕ
hex_digit n = if ltb n 10 then 0x30 + n else 0x37 + n

-- a byte of class c: itself, or a backslash with its letter, or with `u00` and two digits
unfoldable pub written_as : ℕ → ℕ → List ℕ
unfolding hex_digit
written_as c b =
    if eqb c 0 then b ∷ []
    else if eqb c letter_u then backslash ∷ letter_u ∷ 0x30 ∷ 0x30 ∷ hex_digit (b / 16) ∷ hex_digit (b % 16) ∷ []
    else backslash ∷ c ∷ []

unfoldable pub escaped : ℕ → List ℕ
unfolding class written_as
escaped b = written_as (class b) b

-- every byte escaped where it must be
unfoldable pub body : List ℕ → List ℕ
unfolding escaped
body [] = []
body (b ∷ v) = escaped b ++ body v

unfoldable pub quoted : List ℕ → List ℕ
unfolding body
quoted v = quote ∷ (body v ++ (quote ∷ []))
