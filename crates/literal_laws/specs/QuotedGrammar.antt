-- Quoted text is read by the specification's StringCharacter: each of its three kinds is what the front of quoted text looks for, and
-- a quote closes.
use Rattle.std.specs.Prelude.{◌≡◌, refl, ◌↔◌, Bool, true, false, ◌&&◌, ◌||◌, List, [], ◌∷◌, ◌++◌, ℕ, ◌+◌, ◌*◌, eqb, if◌then◌else◌}
use Rattle.std.proofs.Common.{sym, ◌∙◌, subst, eqb-true}
use Rattle.std.proofs.Math.Option.{some}
use Rattle.base.specs.Bools.{clash, and_left, and_right}
use Rattle.meaning.specs.Ascii.{tab, line_feed, carriage_return, quote, backslash}
use Rattle.meaning.specs.Utf8.{scalar, encoded}
use Rattle.meaning.specs.Quoted.{letter_b, letter_f, letter_n, letter_r, letter_t, letter_u}
use Rattle.meaning.specs.Reading.{Front, character, closing, wrong, hex_value, is_hex, unicode_escape, letter_byte, escape, quoted_front, prepend, characters}
use Rattle.literal_laws.specs.Characters.{character_read}
use Rattle.literal_laws.specs.QuotedReads.{quote_closes}
use Rattle.literal_laws.specs.Grammar.{Characters, Says, characters_are_the_grammar}

-- "EscapedCharacter": one of `"` `\` `/` `b` `f` `n` `r` `t`, with the byte that it stands for
pub data EscapedCharacter : ℕ → ℕ → Type 0 where
  double_quote : EscapedCharacter quote quote
  reverse_solidus : EscapedCharacter backslash backslash
  solidus : EscapedCharacter 0x2F 0x2F
  backspace : EscapedCharacter letter_b 0x08
  form_feed : EscapedCharacter letter_f 0x0C
  new_line : EscapedCharacter letter_n line_feed
  return : EscapedCharacter letter_r carriage_return
  horizontal_tab : EscapedCharacter letter_t tab

-- the number that four hex digits write
abbrev pub four_digits : ℕ → ℕ → ℕ → ℕ → ℕ
four_digits a b c d = ((hex_value a * 16 + hex_value b) * 16 + hex_value c) * 16 + hex_value d

-- "StringCharacter": a byte "but not `"` or `\` or LineTerminator", `\u` with four hex digits, or `\` with an EscapedCharacter
pub data StringCharacter : List ℕ → List ℕ → List ℕ → Type 0 where
  byte : {b : ℕ} {s : List ℕ} → eqb b quote ≡ false → eqb b backslash ≡ false → eqb b line_feed ≡ false → eqb b carriage_return ≡ false
      → StringCharacter (b ∷ []) (b ∷ []) s
  unicode : {a b c d : ℕ} {s : List ℕ} → is_hex a ≡ true → is_hex b ≡ true → is_hex c ≡ true → is_hex d ≡ true
      → scalar (four_digits a b c d) ≡ true
      → StringCharacter (backslash ∷ letter_u ∷ a ∷ b ∷ c ∷ d ∷ []) (encoded (four_digits a b c d)) s
  escaped : {c b : ℕ} {s : List ℕ} → EscapedCharacter c b → StringCharacter (backslash ∷ c ∷ []) (b ∷ []) s

-- ---- from the grammar to the front

byte_front : (b : ℕ) (s : List ℕ) → eqb b quote ≡ false → eqb b backslash ≡ false → eqb b line_feed ≡ false
    → eqb b carriage_return ≡ false → quoted_front (b ∷ s) ≡ character (b ∷ []) 0
unfolding quoted_front
byte_front b s q k l r = rw (q, k, l, r)

unicode_front : (a b c d : ℕ) (s : List ℕ) → is_hex a ≡ true → is_hex b ≡ true → is_hex c ≡ true → is_hex d ≡ true
    → scalar (four_digits a b c d) ≡ true
    → unicode_escape (a ∷ b ∷ c ∷ d ∷ s) ≡ character (encoded (four_digits a b c d)) 5
unfolding unicode_escape
unicode_front a b c d s p q r t n = rw (p, q, r, t, n)

escape_front : (s : List ℕ) → quoted_front (backslash ∷ letter_u ∷ s) ≡ unicode_escape s
unfolding quoted_front
escape_front s = refl

escaped_front : (c b : ℕ) (s : List ℕ) → EscapedCharacter c b → quoted_front (backslash ∷ c ∷ s) ≡ character (b ∷ []) 1
unfolding quoted_front
escaped_front c b s double_quote = refl
escaped_front c b s reverse_solidus = refl
escaped_front c b s solidus = refl
escaped_front c b s backspace = refl
escaped_front c b s form_feed = refl
escaped_front c b s new_line = refl
escaped_front c b s return = refl
escaped_front c b s horizontal_tab = refl

character_is_read : (t u s : List ℕ) → StringCharacter t u s
    → characters quoted_front 0 (t ++ s) ≡ prepend u (characters quoted_front 0 s)
character_is_read t u s (byte {b} q k l r) = character_read quoted_front (b ∷ []) 0 b s (byte_front b s q k l r)
character_is_read t u s (unicode {a} {b} {c} {d} p q r x n) =
    character_read quoted_front (encoded (four_digits a b c d)) 5 backslash (letter_u ∷ a ∷ b ∷ c ∷ d ∷ s)
    (escape_front (a ∷ b ∷ c ∷ d ∷ s) ∙ unicode_front a b c d s p q r x n)
character_is_read t u s (escaped {c} {b} e) = character_read quoted_front (b ∷ []) 1 backslash (c ∷ s) (escaped_front c b s e)

-- ---- from the front to the grammar

-- of a choice by a byte: the chosen one is said of the byte itself
choice : {X : Type 0} (P : ℕ → X → Type 0) (c a : ℕ) (x y : X) → P a x → (eqb c a ≡ false → P c y) → P c (if eqb c a then x else y)
choice {X} P c a x y p q = go (eqb c a) refl
  where
    go : (z : Bool) → eqb c a ≡ z → P c (if z then x else y)
    go true e = subst (λ (n : ℕ). P n x) (sym (eqb-true c a e)) p
    go false e = q e

-- a letter stands for a byte, unless that is 0
abbrev Named : ℕ → ℕ → Type 0
Named c b = eqb b 0 ≡ false → EscapedCharacter c b

letter_is_named : (c : ℕ) → Named c (letter_byte c)
unfolding letter_byte
letter_is_named c =
    choice Named c quote quote _ (λ h. double_quote) λ e.
    choice Named c backslash backslash _ (λ h. reverse_solidus) λ e.
    choice Named c 0x2F 0x2F _ (λ h. solidus) λ e.
    choice Named c letter_b 0x08 _ (λ h. backspace) λ e.
    choice Named c letter_f 0x0C _ (λ h. form_feed) λ e.
    choice Named c letter_n line_feed _ (λ h. new_line) λ e.
    choice Named c letter_r carriage_return _ (λ h. return) λ e.
    choice Named c letter_t tab _ (λ h. horizontal_tab) λ e.
    λ h. clash refl h

-- what a front of quoted text says
abbrev QuotedSays : ℕ → List ℕ → Front → Type 0
QuotedSays b s f = Says StringCharacter (quote ∷ []) b s f

unicode_says : (s : List ℕ) → QuotedSays backslash (letter_u ∷ s) (unicode_escape s)
unfolding unicode_escape
unicode_says [] = tt
unicode_says (a ∷ []) = tt
unicode_says (a ∷ (b ∷ [])) = tt
unicode_says (a ∷ (b ∷ (c ∷ []))) = tt
unicode_says (a ∷ (b ∷ (c ∷ (d ∷ s)))) = go (is_hex a && (is_hex b && (is_hex c && (is_hex d && n)))) refl
  where
    n : Bool
    n = scalar (four_digits a b c d)

    go : (x : Bool) → is_hex a && (is_hex b && (is_hex c && (is_hex d && n))) ≡ x
        → QuotedSays backslash (letter_u ∷ a ∷ b ∷ c ∷ d ∷ s) (if x then character (encoded (four_digits a b c d)) 5 else wrong)
    go true e =
        let e1 : is_hex b && (is_hex c && (is_hex d && n)) ≡ true = and_right (is_hex a) (is_hex b && (is_hex c && (is_hex d && n))) e in
        let e2 : is_hex c && (is_hex d && n) ≡ true = and_right (is_hex b) (is_hex c && (is_hex d && n)) e1 in
        let e3 : is_hex d && n ≡ true = and_right (is_hex c) (is_hex d && n) e2 in (
          backslash ∷ letter_u ∷ a ∷ b ∷ c ∷ d ∷ [],
          unicode
              (and_left (is_hex a) (is_hex b && (is_hex c && (is_hex d && n))) e)
              (and_left (is_hex b) (is_hex c && (is_hex d && n)) e1)
              (and_left (is_hex c) (is_hex d && n) e2)
              (and_left (is_hex d) n e3)
              (and_right (is_hex d) n e3),
          refl,
        )
    go false e = tt

escape_says : (s : List ℕ) → QuotedSays backslash s (escape s)
unfolding escape
escape_says [] = tt
escape_says (c ∷ s) =
    choice (λ n f. QuotedSays backslash (n ∷ s) f) c letter_u (unicode_escape s) _ (unicode_says s) λ e.
    named (eqb (letter_byte c) 0) refl
  where
    named : (x : Bool) → eqb (letter_byte c) 0 ≡ x
        → QuotedSays backslash (c ∷ s) (if x then wrong else character (letter_byte c ∷ []) 1)
    named true e = tt
    named false e = (backslash ∷ c ∷ [], escaped (letter_is_named c e), refl)

quoted_front_says : (b : ℕ) (s : List ℕ) → QuotedSays b s (quoted_front (b ∷ s))
unfolding quoted_front
quoted_front_says b s =
    choice (λ n f. QuotedSays n s f) b quote (closing 0) _ refl λ q.
    choice (λ n f. QuotedSays n s f) b backslash (escape s) _ (escape_says s) λ k.
    other q k (eqb b line_feed) (eqb b carriage_return) refl refl
  where
    other : eqb b quote ≡ false → eqb b backslash ≡ false → (l r : Bool) → eqb b line_feed ≡ l → eqb b carriage_return ≡ r
        → QuotedSays b s (if l || r then wrong else character (b ∷ []) 0)
    other q k true r e f = tt
    other q k false true e f = tt
    other q k false false e f = (b ∷ [], byte q k e f, refl)

pub quoted_text_is_the_grammar : (s v : List ℕ) → (characters quoted_front 0 s ≡ some v) ↔ Characters StringCharacter (quote ∷ []) s v
quoted_text_is_the_grammar =
    characters_are_the_grammar quoted_front StringCharacter (quote ∷ [])
    (record { says = quoted_front_says; reads = character_is_read; closes = quote_closes })
