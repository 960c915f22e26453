-- The quoted form of any bytes reads back: what is written for a byte is one character that stands for that byte. A byte up to the
-- backslash is looked at one by one, and every byte past it stands for itself.
use Rattle.std.specs.Prelude.{◌≡◌, Bool, true, false, not, ◌&&◌, List, [], ◌∷◌, ◌++◌, ℕ, ◌+◌, ◌*◌, ◌/◌, ◌%◌, ◌≤◌, ◌<◌, eqb, ltb, if◌then◌else◌}
use Rattle.std.proofs.Math.Path.{refl}
use Rattle.std.proofs.Math.Option.{some}
use Rattle.std.proofs.Common.{append_assoc, arith, ne_eqb, eqb-true, lt-ltb, le-ltb, le-leb, ltb-true}
use Rattle.std.proofs.Math.Decide.{dec_le}
use Rattle.std.proofs.lemmas.Bool.{eqb-false}
use Rattle.base.specs.Bools.{and_left, and_right, not_true}
use Rattle.base.specs.Finite.{all, below}
use Rattle.meaning.specs.Ascii.{line_feed, carriage_return, tab, quote, backslash}
use Rattle.meaning.specs.Quoted.{letter_u, class, hex_digit, written_as, escaped, body, quoted}
use Rattle.meaning.specs.Block.{three_quotes}
use Rattle.meaning.specs.Reading.{character, hex_value, letter_byte, quoted_front, prepend, characters, string_value, value, quoted_form}
use Rattle.literal_laws.specs.Quotes.{quote_first, no_quote_behind_no_three}
use Rattle.literal_laws.specs.Characters.{prepend_some, character_read}

-- ---- the classes of bytes

plain_past_backslash : (b : ℕ) → backslash < b → class b ≡ 0
unfolding class
plain_past_backslash b h =
    simp (
      ne_eqb b quote (omega arith),
      ne_eqb b backslash (omega arith),
      ne_eqb b 0x08 (omega arith),
      ne_eqb b line_feed (omega arith),
      ne_eqb b 0x0C (omega arith),
      ne_eqb b carriage_return (omega arith),
      ne_eqb b tab (omega arith),
      le-ltb b 0x20 (omega arith),
    )

-- what each class says of its bytes: `\u` stands for one below 20 hex, and any other letter for its byte
class_rule : ℕ → Bool
class_rule b =
    if eqb (class b) 0 then true
    else if eqb (class b) letter_u then ltb b 0x20
    else not (eqb b 0) && eqb (letter_byte (class b)) b

class_rule_lem : (b : ℕ) → b < 0x5D → class_rule b ≡ true
class_rule_lem = below class_rule 0x5D (unfold class_rule class letter_byte in refl)

numbered_is_low : (b : ℕ) → class b ≡ letter_u → b < 0x20
unfolding class_rule
numbered_is_low b e = go (dec_le 0x5D b)
  where
    go : Dec (0x5D ≤ b) → b < 0x20
    go (yes h) = absurd (omega (arith, plain_past_backslash b h, e))
    go (no h) = ltb-true b 0x20 (rw e at (class_rule_lem b (omega arith)))

lettered_is_named : (b : ℕ) → (class b ≡ 0 → ⊥) → (class b ≡ letter_u → ⊥) → not (eqb b 0) && eqb (letter_byte (class b)) b ≡ true
unfolding class_rule
lettered_is_named b z u = go (dec_le 0x5D b)
  where
    go : Dec (0x5D ≤ b) → not (eqb b 0) && eqb (letter_byte (class b)) b ≡ true
    go (yes h) = absurd (z (plain_past_backslash b h))
    go (no h) = rw (ne_eqb (class b) 0 z, ne_eqb (class b) letter_u u) at (class_rule_lem b (omega arith))

-- ---- what stands at the front

no_quote_plain : (b : ℕ) → class b ≡ 0 → eqb b quote ≡ false
unfolding class
no_quote_plain b e = ne_eqb b quote (λ p. let z : class quote ≡ 0 = rw p at e in omega arith)

plain_front : (b : ℕ) (s : List ℕ) → class b ≡ 0 → quoted_front (b ∷ s) ≡ character (b ∷ []) 0
unfolding quoted_front
plain_front b s e =
    simp (
      no_quote_plain b e,
      other backslash (λ h. omega (arith, class_backslash)),
      other line_feed (λ h. omega (arith, class_lf)),
      other carriage_return (λ h. omega (arith, class_cr)),
    )
  where
    class_backslash : class backslash ≡ 0x5C
    class_backslash = unfold class in refl

    class_lf : class line_feed ≡ 0x6E
    class_lf = unfold class in refl

    class_cr : class carriage_return ≡ 0x72
    class_cr = unfold class in refl

    other : (n : ℕ) → (class n ≡ 0 → ⊥) → eqb b n ≡ false
    other n h = ne_eqb b n (λ p. h (rw p at e))

letter_front : (b : ℕ) (s : List ℕ) → (class b ≡ 0 → ⊥) → (class b ≡ letter_u → ⊥)
    → quoted_front (backslash ∷ class b ∷ s) ≡ character (b ∷ []) 1
unfolding quoted_front
letter_front b s z u =
    let h = lettered_is_named b z u in
    let n = not_true (eqb b 0) (and_left (not (eqb b 0)) (eqb (letter_byte (class b)) b) h) in
    let l = eqb-true (letter_byte (class b)) b (and_right (not (eqb b 0)) (eqb (letter_byte (class b)) b) h) in
    rw (ne_eqb (class b) letter_u u, l, n)

hex_value_of_digit : (n : ℕ) → n < 16 → hex_value (hex_digit n) ≡ n
hex_value_of_digit n h = eqb-true (hex_value (hex_digit n)) n (below test 16 tested n h)
  where
    test : ℕ → Bool
    test n = eqb (hex_value (hex_digit n)) n

    tested : all test 16 ≡ true
    tested = unfold hex_value hex_digit in refl

number_front : (b : ℕ) (s : List ℕ) → b < 0x20
    → quoted_front (backslash ∷ letter_u ∷ 0x30 ∷ 0x30 ∷ hex_digit (b / 16) ∷ hex_digit (b % 16) ∷ s) ≡ character (b ∷ []) 5
unfolding quoted_front
number_front b s h =
    let v : (0 + b / 16) * 16 + b % 16 ≡ b = omega arith in
    rw (
      hex_value_of_digit (b / 16) (omega arith),
      hex_value_of_digit (b % 16) (omega arith),
      lt-ltb (b / 16) 16 (omega arith),
      lt-ltb (b % 16) 16 (omega arith),
      v,
      le-leb b 0x10FFFF (omega arith),
      lt-ltb b 0xD800 (omega arith),
      lt-ltb b 0x80 (omega arith),
    )

-- ---- the whole form

escaped_read : (b : ℕ) (x : List ℕ) → characters quoted_front 0 (escaped b ++ x) ≡ prepend (b ∷ []) (characters quoted_front 0 x)
unfolding escaped written_as
escaped_read b x = go (eqb (class b) 0) (eqb (class b) letter_u) refl refl
  where
    go : (z u : Bool) → eqb (class b) 0 ≡ z → eqb (class b) letter_u ≡ u
        → characters quoted_front 0
        ((if z then b ∷ []
        else if u then backslash ∷ letter_u ∷ 0x30 ∷ 0x30 ∷ hex_digit (b / 16) ∷ hex_digit (b % 16) ∷ []
        else backslash ∷ class b ∷ [])
        ++ x)
        ≡ prepend (b ∷ []) (characters quoted_front 0 x)
    go true u e f = character_read quoted_front (b ∷ []) 0 b x (plain_front b x (eqb-true (class b) 0 e))
    go false true e f =
        let low = numbered_is_low b (eqb-true (class b) letter_u f) in
        character_read quoted_front (b ∷ []) 5 backslash (letter_u ∷ 0x30 ∷ 0x30 ∷ hex_digit (b / 16) ∷ hex_digit (b % 16) ∷ x)
        (number_front b x low)
    go false false e f =
        character_read quoted_front (b ∷ []) 1 backslash (class b ∷ x)
        (letter_front b x (eqb-false (class b) 0 e) (eqb-false (class b) letter_u f))

pub quote_closes : characters quoted_front 0 (quote ∷ []) ≡ some []
unfolding characters quoted_front
quote_closes = refl

body_read : (v : List ℕ) → characters quoted_front 0 (body v ++ (quote ∷ [])) ≡ some v
unfolding body
body_read [] = quote_closes
body_read (b ∷ v) = rw (append_assoc, escaped_read b (body v ++ (quote ∷ [])), body_read v) (prepend_some (b ∷ []) v)

-- what is written for a byte begins with no quote
escaped_without_quote : (b : ℕ) (x : List ℕ) → quote_first (escaped b ++ x) ≡ false
unfolding escaped written_as
escaped_without_quote b x = go (eqb (class b) 0) (eqb (class b) letter_u) refl
  where
    go : (z u : Bool) → eqb (class b) 0 ≡ z
        → quote_first
        ((if z then b ∷ []
        else if u then backslash ∷ letter_u ∷ 0x30 ∷ 0x30 ∷ hex_digit (b / 16) ∷ hex_digit (b % 16) ∷ []
        else backslash ∷ class b ∷ [])
        ++ x)
        ≡ false
    go true u e = no_quote_plain b (eqb-true (class b) 0 e)
    go false true e = refl
    go false false e = refl

quoted_without_three_quotes : (v : List ℕ) → three_quotes (quoted v) ≡ false
unfolding quoted
quoted_without_three_quotes [] = unfold three_quotes in refl
quoted_without_three_quotes (b ∷ v) =
    let x = body v ++ (quote ∷ []) in
    rw append_assoc (no_quote_behind_no_three quote (escaped b ++ x) (escaped_without_quote b x))

pub quoted_reads_back : (v : List ℕ) → string_value (quoted v) ≡ value quoted_form v
unfolding string_value quoted
quoted_reads_back v = rw (quoted_without_three_quotes v, body_read v)
