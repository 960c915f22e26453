-- A text is read exactly if it is one StringValue of the specification's grammar, and the answer is its value and its form. A quote
-- in quoted text closes it, so no quoted literal begins with three.
use Rattle.std.specs.Prelude.{◌≡◌, ◌↔◌, Bool, true, List, [], ◌∷◌, ◌++◌, ℕ, eqb, drop, if◌then◌else◌}
use Rattle.std.proofs.Math.Path.{refl}
use Rattle.std.proofs.Common.{sym, ap, ◌∙◌, subst, eqb-true}
use Rattle.std.proofs.Math.Bool.{false}
use Rattle.std.proofs.Math.Option.{Option, none, some}
use Rattle.base.specs.Bools.{clash}
use Rattle.meaning.specs.Ascii.{quote, triple_quote}
use Rattle.meaning.specs.Block.{three_quotes, block_string_value}
use Rattle.meaning.specs.Reading.{closing, quoted_front, block_front, characters, Form, quoted_form, block_form, Reading, refused, value, as_quoted, as_block, string_value}
use Rattle.literal_laws.specs.Quotes.{no_quote_behind_no_three, three_quotes_are}
use Rattle.literal_laws.specs.Characters.{closing_read}
use Rattle.literal_laws.specs.Grammar.{Characters, nothing_left}
use Rattle.literal_laws.specs.QuotedGrammar.{StringCharacter, quoted_text_is_the_grammar}
use Rattle.literal_laws.specs.BlockGrammar.{BlockStringCharacter, block_text_is_the_grammar}

-- "StringValue", with its form and its value
pub data StringValue : List ℕ → Form → List ℕ → Type 0 where
  in_quotes : {s v : List ℕ} → Characters StringCharacter (quote ∷ []) s v → StringValue (quote ∷ s) quoted_form v
  in_three_quotes : {s raw : List ℕ} → Characters BlockStringCharacter triple_quote s raw
      → StringValue (triple_quote ++ s) block_form (block_string_value raw)

-- ---- from the grammar to the reading

quote_front : (s : List ℕ) → quoted_front (quote ∷ s) ≡ closing 0
unfolding quoted_front
quote_front s = refl

-- text that begins with a quote ends there
ends_at_quote : (s v : List ℕ) → characters quoted_front 0 (quote ∷ s) ≡ some v → s ≡ []
ends_at_quote s v h = (nothing_left s v (sym (closing_read quoted_front 0 quote s (quote_front s)) ∙ h)).0

pub no_three_quotes_in_quotes : (s v : List ℕ) → characters quoted_front 0 s ≡ some v → three_quotes (quote ∷ s) ≡ false
no_three_quotes_in_quotes [] v h = unfold three_quotes in refl
no_three_quotes_in_quotes (b ∷ s) v h = go (eqb b quote) refl
  where
    go : (x : Bool) → eqb b quote ≡ x → three_quotes (quote ∷ b ∷ s) ≡ false
    go true e =
        let p : quote ≡ b = sym (eqb-true b quote e) in
        rw (ends_at_quote s v (ap (λ (n : ℕ). characters quoted_front 0 (n ∷ s)) p ∙ h)) (unfold three_quotes in refl)
    go false e = no_quote_behind_no_three quote (b ∷ s) e

quoted_value : (s v : List ℕ) → three_quotes (quote ∷ s) ≡ false → characters quoted_front 0 s ≡ some v
    → string_value (quote ∷ s) ≡ value quoted_form v
unfolding string_value
quoted_value s v n h = rw (n, h)

block_value : (s raw : List ℕ) → characters block_front 0 s ≡ some raw
    → string_value (triple_quote ++ s) ≡ value block_form (block_string_value raw)
unfolding string_value
block_value s raw h = rw h

grammar_is_read : {text : List ℕ} {f : Form} {v : List ℕ} → StringValue text f v → string_value text ≡ value f v
grammar_is_read (in_quotes {s} {v} g) =
    let h = (quoted_text_is_the_grammar s v).1 g in
    quoted_value s v (no_three_quotes_in_quotes s v h) h
grammar_is_read (in_three_quotes {s} {raw} g) = block_value s raw ((block_text_is_the_grammar s raw).1 g)

-- ---- from the reading to the grammar

-- a reading is a value
abbrev is_value : Reading → Bool
is_value refused = false
is_value (value f v) = true

refused_is_no_value : {X : Type 0} {f : Form} {v : List ℕ} → refused ≡ value f v → X
refused_is_no_value h = clash refl (ap is_value (sym h))

-- its form
abbrev form_in : Reading → Form
form_in refused = quoted_form
form_in (value f v) = f

-- its bytes
abbrev bytes_in : Reading → List ℕ
bytes_in refused = []
bytes_in (value f v) = v

-- the same, of what was read
same_value : {text text' : List ℕ} {f f' : Form} {v v' : List ℕ} → StringValue text f v → text ≡ text' → value f v ≡ value f' v'
    → StringValue text' f' v'
same_value {text} {text'} {f} {f'} {v} {v'} g e h =
    subst (λ (r : Reading). StringValue text' (form_in r) (bytes_in r)) h (subst (λ (x : List ℕ). StringValue x f v) e g)

from_quoted : (s : List ℕ) (f : Form) (v : List ℕ) (o : Option (List ℕ)) → characters quoted_front 0 s ≡ o → as_quoted o ≡ value f v
    → StringValue (quote ∷ s) f v
unfolding as_quoted
from_quoted s f v none e h = refused_is_no_value h
from_quoted s f v (some w) e h = same_value (in_quotes ((quoted_text_is_the_grammar s w).0 e)) refl h

from_block : (s : List ℕ) (f : Form) (v : List ℕ) (o : Option (List ℕ)) → characters block_front 0 s ≡ o → as_block o ≡ value f v
    → StringValue (triple_quote ++ s) f v
unfolding as_block
from_block s f v none e h = refused_is_no_value h
from_block s f v (some raw) e h = same_value (in_three_quotes ((block_text_is_the_grammar s raw).0 e)) refl h

by_first_bytes : (b : ℕ) (s : List ℕ) (f : Form) (v : List ℕ) (x y : Bool) → three_quotes (b ∷ s) ≡ x → eqb b quote ≡ y
    → (if x then as_block (characters block_front 0 (drop 2 s)) else if y then as_quoted (characters quoted_front 0 s) else refused)
    ≡ value f v
    → StringValue (b ∷ s) f v
by_first_bytes b s f v true y e g h =
    subst (λ (t : List ℕ). StringValue t f v) (sym (three_quotes_are (b ∷ s) e))
    (from_block (drop 2 s) f v (characters block_front 0 (drop 2 s)) refl h)
by_first_bytes b s f v false true e g h =
    subst (λ (n : ℕ). StringValue (n ∷ s) f v) (sym (eqb-true b quote g)) (from_quoted s f v (characters quoted_front 0 s) refl h)
by_first_bytes b s f v false false e g h = refused_is_no_value h

read_is_grammar : (text : List ℕ) (f : Form) (v : List ℕ) → string_value text ≡ value f v → StringValue text f v
unfolding string_value
read_is_grammar [] f v h = refused_is_no_value h
read_is_grammar (b ∷ s) f v h = by_first_bytes b s f v (three_quotes (b ∷ s)) (eqb b quote) refl refl h

pub string_value_is_the_grammar : (text : List ℕ) (f : Form) (v : List ℕ) → (string_value text ≡ value f v) ↔ StringValue text f v
string_value_is_the_grammar text f v = (read_is_grammar text f v, grammar_is_read)
