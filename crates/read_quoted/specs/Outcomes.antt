-- What reading answers and leaves: refused where the text has no value, and otherwise by whether the value fits. A value is never longer
-- than its text, so the measuring walk tells its length.
use Rattle.std.specs.Prelude.{◌≡◌, refl, Option, Some, None, Bool, true, false, List, [], ◌∷◌, ◌++◌, ℕ, ◌+◌, ◌/◌, ◌%◌, ◌≤◌, ◌<◌, ltb, length, drop, if◌then◌else◌}
use Rattle.std.proofs.Common.{sym, arith, length-append, le-leb}
use Rattle.std.proofs.Math.Option.{Option as Maybe, none, some}
use Rattle.std.proofs.lemmas.Bool.{lt-leb}
use Rattle.meaning.specs.Ascii.{quote}
use Rattle.meaning.specs.Utf8.{encoded}
use Rattle.meaning.specs.Reading.{quoted_form, quoted_front, characters, as_quoted}
use Rattle.meaning.specs.Answers.{answer}
use Rattle.meaning.specs.Entries.{written, read_of}
use Rattle.literal_laws.specs.Grammar.{Characters, close, more}
use Rattle.literal_laws.specs.QuotedGrammar.{StringCharacter, byte, unicode, escaped, four_digits, quoted_text_is_the_grammar}

-- ---- a value is never longer than its text

encoded_in_four : (n : ℕ) → length (encoded n) ≤ 4
unfolding encoded
encoded_in_four n = go (ltb n 0x80) (ltb n 0x800) (ltb n 0x10000)
  where
    go : (x y z : Bool) →
        length
        (if x then n ∷ []
        else if y then (0xC0 + n / 64) ∷ (0x80 + n % 64) ∷ []
        else if z then (0xE0 + n / 4096) ∷ (0x80 + n / 64 % 64) ∷ (0x80 + n % 64) ∷ []
        else (0xF0 + n / 262144) ∷ (0x80 + n / 4096 % 64) ∷ (0x80 + n / 64 % 64) ∷ (0x80 + n % 64) ∷ [])
        ≤ 4
    go true y z = omega arith
    go false true z = omega arith
    go false false true = omega arith
    go false false false = omega arith

character_no_longer : {t u s : List ℕ} → StringCharacter t u s → length u ≤ length t
character_no_longer (byte q k l r) = omega arith
character_no_longer (unicode {a} {b} {c} {d} p q r x n) = omega (arith, encoded_in_four (four_digits a b c d))
character_no_longer (escaped e) = omega arith

grammar_no_longer : {s v : List ℕ} → Characters StringCharacter (quote ∷ []) s v → length v ≤ length s
grammar_no_longer close = omega arith
grammar_no_longer (more {t} {u} {s} {v} o g) =
    omega (arith, length-append t s, length-append u v, character_no_longer o, grammar_no_longer g)

pub value_no_longer : (s v : List ℕ) → characters quoted_front 0 s ≡ some v → length v ≤ length s
value_no_longer s v h = grammar_no_longer ((quoted_text_is_the_grammar s v).0 h)

-- ---- what is stored of a value, and the outcome of each case

-- the text has a value; its length is told, and where there is room it is stored over d, which leaves d'
pub record Stored (text : Maybe (List ℕ)) (d d' : List ℕ) (n : ℕ) : Type 0 where
  pub value : List ℕ
  pub says : text ≡ some value
  pub told : n ≡ length value
  pub left : length value ≤ length d → d' ≡ value ++ drop (length value) d

abbrev pub StoredIs : Maybe (List ℕ) → List ℕ → List ℕ → Option ℕ → Type 0
StoredIs text d d' (Some n) = Stored text d d' n
StoredIs text d d' None = text ≡ none

fits : (v d : List ℕ) → length v ≤ length d
    → read_of (as_quoted (some v)) d ≡ (answer 0 0 (length v), some quoted_form, v ++ drop (length v) d)
unfolding as_quoted written
fits v d h = rw (le-leb (length v) (length d) h)

short : (v d : List ℕ) → length d < length v → read_of (as_quoted (some v)) d ≡ (answer 8 0 (length v), none, d)
unfolding as_quoted written
short v d h = rw (lt-leb (length v) (length d) h)

pub no_value : (o : Maybe (List ℕ)) (d : List ℕ) → o ≡ none → (answer 9 0 0, none, d) ≡ read_of (as_quoted o) d
unfolding as_quoted
no_value o d h = rw h refl

-- stored over e first, which measures
module _ {o : Maybe (List ℕ)} {e e' : List ℕ} {n : ℕ} (m : Stored o e e' n) (d : List ℕ) where
  pub value_too_long : length d < n → (answer 8 0 n, none, d) ≡ read_of (as_quoted o) d
  value_too_long h =
      let l : length d < length m.value = rw m.told at h in
      rw (m.says, m.told) (sym (short m.value d l))

  pub value_written : (d' : List ℕ) (r : Option ℕ) → n ≤ length d → StoredIs o d d' r
      → (answer 0 0 n, some quoted_form, d') ≡ read_of (as_quoted o) d
  value_written d' (Some k) h w =
      let z : w.value ≡ m.value = cc in
      let l : length m.value ≤ length d = rw m.told at h in
      let s : d' ≡ m.value ++ drop (length m.value) d = rw z at w.left l in
      rw (m.says, m.told, s) (sym (fits m.value d l))
  value_written d' None h w = let z : ◌≡◌ {A = ℕ} 0 1 = cc in absurd (omega arith)
