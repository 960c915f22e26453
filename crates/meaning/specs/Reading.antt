-- Document 01, "String literals", "Reading": one StringValue of the specification, with its form.
use Rattle.std.specs.Prelude.{Bool, ◌&&◌, ◌||◌, List, [], ◌∷◌, ◌++◌, ℕ, zero, suc, ◌+◌, ◌-◌, ◌*◌, eqb, ltb, leb, drop, if◌then◌else◌}
use Rattle.std.proofs.Math.Option.{Option, none, some}
use Rattle.meaning.specs.Ascii.{tab, line_feed, carriage_return, quote, backslash, triple_quote}
use Rattle.meaning.specs.Utf8.{scalar, encoded, utf8}
use Rattle.meaning.specs.Quoted.{letter_b, letter_f, letter_n, letter_r, letter_t, letter_u}
use Rattle.meaning.specs.Block.{three_quotes, block_string_value}

-- what stands at the front of the text: a character, with the bytes that it stands for; the closing quotes; or neither.
-- The number counts the bytes that it takes after its first.
pub data Front : Type 0 where
  character : List ℕ → ℕ → Front
  closing : ℕ → Front
  wrong : Front

-- ---- quoted text

-- "`\u` with four hex digits of either case": a digit's value, 16 for any other byte
unfoldable pub hex_value : ℕ → ℕ
hex_value b =
    if leb 0x30 b && leb b 0x39 then b - 0x30
    else if leb 0x41 b && leb b 0x46 then b - 0x37
    else if leb 0x61 b && leb b 0x66 then b - 0x57
    else 16

unfoldable pub is_hex : ℕ → Bool
unfolding hex_value
is_hex b = ltb (hex_value b) 16

-- what one `\u` escape stands for, from the text after the `u`; "D800 to DFFF refused"
unfoldable pub unicode_escape : List ℕ → Front
unfolding is_hex scalar encoded
unicode_escape [] = wrong
unicode_escape (a ∷ []) = wrong
unicode_escape (a ∷ (b ∷ [])) = wrong
unicode_escape (a ∷ (b ∷ (c ∷ []))) = wrong
unicode_escape (a ∷ (b ∷ (c ∷ (d ∷ s)))) =
    let n = ((hex_value a * 16 + hex_value b) * 16 + hex_value c) * 16 + hex_value d in
    if is_hex a && (is_hex b && (is_hex c && (is_hex d && scalar n))) then character (encoded n) 5 else wrong

-- the byte that the letter after a backslash stands for, 0 where it is none of them
unfoldable pub letter_byte : ℕ → ℕ
letter_byte c =
    if eqb c quote then quote
    else if eqb c backslash then backslash
    else if eqb c 0x2F then 0x2F
    else if eqb c letter_b then 0x08
    else if eqb c letter_f then 0x0C
    else if eqb c letter_n then line_feed
    else if eqb c letter_r then carriage_return
    else if eqb c letter_t then tab
    else 0

-- an escape, from the text after its backslash
unfoldable pub escape : List ℕ → Front
unfolding unicode_escape letter_byte
escape [] = wrong
escape (c ∷ s) =
    if eqb c letter_u then unicode_escape s else if eqb (letter_byte c) 0 then wrong else character (letter_byte c ∷ []) 1

-- "quoted text has no raw LF or CR"
unfoldable pub quoted_front : List ℕ → Front
unfolding escape
quoted_front [] = wrong
quoted_front (b ∷ s) =
    if eqb b quote then closing 0
    else if eqb b backslash then escape s
    else if eqb b line_feed || eqb b carriage_return then wrong
    else character (b ∷ []) 0

-- ---- block text: `\"""` stands for `"""`, and any other byte for itself

unfoldable pub block_front : List ℕ → Front
unfolding three_quotes
block_front [] = wrong
block_front (b ∷ s) =
    if three_quotes (b ∷ s) then closing 2
    else if eqb b backslash && three_quotes s then character triple_quote 3
    else character (b ∷ []) 0

-- ---- characters up to the closing quotes, and nothing after them

unfoldable pub prepend : List ℕ → Option (List ℕ) → Option (List ℕ)
prepend t none = none
prepend t (some v) = some (t ++ v)

unfoldable pub nothing_more : List ℕ → Option (List ℕ)
nothing_more [] = some []
nothing_more (b ∷ s) = none

-- what follows the first byte is s; `rest k` is what the text says once k bytes of s are passed over
unfoldable pub on_front : Front → List ℕ → (ℕ → Option (List ℕ)) → Option (List ℕ)
unfolding prepend nothing_more
on_front (character t k) s rest = prepend t (rest k)
on_front (closing k) s rest = nothing_more (drop k s)
on_front wrong s rest = none

-- the number counts the bytes to be passed over
unfoldable pub characters : (List ℕ → Front) → ℕ → List ℕ → Option (List ℕ)
unfolding on_front
characters front k [] = none
characters front zero (b ∷ s) = on_front (front (b ∷ s)) s (λ k. characters front k s)
characters front (suc k) (b ∷ s) = characters front k s

-- ---- the answer

-- "The answer names the form."
pub data Form : Type 0 where
  quoted_form block_form : Form

pub data Reading : Type 0 where
  refused : Reading
  value : Form → List ℕ → Reading

unfoldable pub as_quoted : Option (List ℕ) → Reading
as_quoted none = refused
as_quoted (some v) = value quoted_form v

unfoldable pub as_block : Option (List ℕ) → Reading
unfolding block_string_value
as_block none = refused
as_block (some raw) = value block_form (block_string_value raw)

-- "exactly one Spec StringValue": a text that begins with three quotes is a block string or nothing
unfoldable pub string_value : List ℕ → Reading
unfolding quoted_front block_front characters as_quoted as_block
string_value [] = refused
string_value (b ∷ s) =
    if three_quotes (b ∷ s) then as_block (characters block_front 0 (drop 2 s))
    else if eqb b quote then as_quoted (characters quoted_front 0 s)
    else refused

-- "the input to be read is not UTF-8 or not exactly one Spec StringValue"
unfoldable pub reading : List ℕ → Reading
unfolding utf8 string_value
reading text = if utf8 text then string_value text else refused
