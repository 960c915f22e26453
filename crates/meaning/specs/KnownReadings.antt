-- Readings that document 01 and the specification fix.
use Rattle.std.specs.Prelude.{◌≡◌, refl, true, false, List, [], ◌∷◌, ◌++◌, ℕ}
use Prim.Native.String.{String}
use Rattle.meaning.specs.Ascii.{ascii}
use Rattle.meaning.specs.Utf8.{utf8}
use Rattle.meaning.specs.Reading.{refused, value, quoted_form, block_form, reading}

abbrev Quoted : String → String → Type 0
Quoted text v = reading (ascii text) ≡ value quoted_form (ascii v)

abbrev Block : String → String → Type 0
Block text v = reading (ascii text) ≡ value block_form (ascii v)

abbrev Refused : String → Type 0
Refused text = reading (ascii text) ≡ refused

-- "Reading `""""""` gives the empty value; five or seven quotes are refused."
counts_of_quotes :
    Refused "" × Refused "\"" × Quoted "\"\"" "" × Refused "\"\"\"" × Refused "\"\"\"\"" × Refused "\"\"\"\"\"" × Block "\"\"\"\"\"\"" "" × Refused "\"\"\"\"\"\"\""
unfolding reading
counts_of_quotes = (refl, refl, refl, refl, refl, refl, refl, refl)

-- "escapes `\" \\ \/ \b \f \n \r \t` and `\u` with four hex digits of either case; D800 to DFFF refused"
escapes :
    (reading (ascii "\"\\\"\\\\\\/\\b\\f\\n\\r\\t\"") ≡ value quoted_form (0x22 ∷ 0x5C ∷ 0x2F ∷ 0x08 ∷ 0x0C ∷ 0x0A ∷ 0x0D ∷ 0x09 ∷ []))
    × Quoted "\"\\u0041\\u006a\\u006A\"" "Ajj"
    × (reading (ascii "\"\\u00e9\\u20AC\\uFFff\"") ≡ value quoted_form (0xC3 ∷ 0xA9 ∷ 0xE2 ∷ 0x82 ∷ 0xAC ∷ 0xEF ∷ 0xBF ∷ 0xBF ∷ []))
    × (reading (ascii "\"\\uD7FF\\uE000\"") ≡ value quoted_form (0xED ∷ 0x9F ∷ 0xBF ∷ 0xEE ∷ 0x80 ∷ 0x80 ∷ []))
    × Refused "\"\\uD800\""
    × Refused "\"\\uDFFF\""
    × Refused "\"\\u00G0\""
    × Refused "\"\\u004\""
    × Refused "\"\\a\""
    × Refused "\"\\\""
    × Refused "\"\\U0041\""
unfolding reading
escapes = (refl, refl, refl, refl, refl, refl, refl, refl, refl, refl, refl)

-- "quoted text has no raw LF or CR"; "exactly one"
raw_bytes :
    Refused "\"a\nb\"" × Refused "\"a\rb\"" × Quoted "\"a\tb\"" "a\tb" × Quoted "\"'\"" "'" × Refused " \"a\"" × Refused "\"a\" " × Refused "\"a\"\"b\"" × Refused "a"
    × (reading (ascii "\"" ++ 0x01 ∷ ascii "\"") ≡ value quoted_form (0x01 ∷ []))
unfolding reading
raw_bytes = (refl, refl, refl, refl, refl, refl, refl, refl, refl)

-- "lines split at LF, CR LF or CR; common indent over non-blank lines after the first, taken from all but the first; blank lines
-- dropped at both ends; joined by LF"
block_values :
    Block "\"\"\"a\"\"\"" "a"
    × Block "\"\"\"  a\n    b\n   c\"\"\"" "  a\n b\nc"
    × Block "\"\"\"\n  a\n\n  b\n  \"\"\"" "a\n\nb"
    × Block "\"\"\"\r\n  a\r  b\r\n\r\r\n c\n\"\"\"" " a\n b\n\n\nc"
    × Block "\"\"\" \t\n \t\n\"\"\"" ""
    × Block "\"\"\"\n\ta\n b\"\"\"" "a\nb"
    × Block "\"\"\"a\n \nb\"\"\"" "a\n \nb"
    × Block "\"\"\"\\\"\"\"x\"\"\"" "\"\"\"x"
    × Block "\"\"\"\\n\\u0041\\\\x\"\"\"" "\\n\\u0041\\\\x"
    × Block "\"\"\"a\"\"b\"\"\"" "a\"\"b"
    × Refused "\"\"\"a\\\"\"\""
    × Refused "\"\"\"a\"\"\"b"
    × Refused "\"\"\"a\"\"\"\""
unfolding reading
block_values = (refl, refl, refl, refl, refl, refl, refl, refl, refl, refl, refl, refl, refl)

-- "overlong forms, surrogates and values past 10FFFF are bad"
abbrev Good : List ℕ → Type 0
Good s = utf8 s ≡ true

abbrev Bad : List ℕ → Type 0
Bad s = utf8 s ≡ false

utf8_limits :
    Good [] × Good (0x00 ∷ 0x7F ∷ []) × Bad (0x80 ∷ []) × Bad (0xBF ∷ []) × Bad (0xC1 ∷ 0xBF ∷ []) × Good (0xC2 ∷ 0x80 ∷ []) × Good (0xDF ∷ 0xBF ∷ []) × Bad (0xC2 ∷ []) × Bad (0xC2 ∷ 0x41 ∷ [])
    × Bad (0xE0 ∷ 0x9F ∷ 0xBF ∷ [])
    × Good (0xE0 ∷ 0xA0 ∷ 0x80 ∷ [])
    × Good (0xED ∷ 0x9F ∷ 0xBF ∷ [])
    × Bad (0xED ∷ 0xA0 ∷ 0x80 ∷ [])
    × Bad (0xED ∷ 0xBF ∷ 0xBF ∷ [])
    × Good (0xEE ∷ 0x80 ∷ 0x80 ∷ [])
    × Good (0xEF ∷ 0xBF ∷ 0xBF ∷ [])
    × Bad (0xE2 ∷ 0x82 ∷ [])
    × Bad (0xF0 ∷ 0x8F ∷ 0xBF ∷ 0xBF ∷ [])
    × Good (0xF0 ∷ 0x90 ∷ 0x80 ∷ 0x80 ∷ [])
    × Good (0xF4 ∷ 0x8F ∷ 0xBF ∷ 0xBF ∷ [])
    × Bad (0xF4 ∷ 0x90 ∷ 0x80 ∷ 0x80 ∷ [])
    × Bad (0xF5 ∷ 0x80 ∷ 0x80 ∷ 0x80 ∷ [])
    × Bad (0xFF ∷ [])
    × Bad (0xF0 ∷ 0x9F ∷ 0x98 ∷ [])
    × (reading (ascii "\"" ++ 0xC2 ∷ ascii "\"") ≡ refused)
unfolding utf8 reading
utf8_limits = (refl, refl, refl, refl, refl, refl, refl, refl, refl, refl, refl, refl, refl, refl, refl, refl, refl, refl, refl, refl, refl, refl, refl, refl, refl)
