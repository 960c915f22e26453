-- Block text is read by the specification's BlockStringCharacter: the front of block text looks for `"""`, then for `\"""`, and takes
-- any other byte as it is.
use Rattle.std.specs.Prelude.{◌≡◌, refl, ◌↔◌, Bool, true, false, ◌&&◌, List, [], ◌∷◌, ◌++◌, ℕ, eqb, drop, if◌then◌else◌}
use Rattle.std.proofs.Common.{sym, ap, ◌∙◌, eqb-true}
use Rattle.std.proofs.Math.Option.{some}
use Rattle.base.specs.Bools.{and_left, and_right}
use Rattle.meaning.specs.Ascii.{backslash, triple_quote}
use Rattle.meaning.specs.Block.{three_quotes}
use Rattle.meaning.specs.Reading.{Front, character, closing, block_front, prepend, characters}
use Rattle.literal_laws.specs.Quotes.{three_quotes_are}
use Rattle.literal_laws.specs.BlockCharacters.{block_text, escape_read, byte_read, closing_quotes_read}
use Rattle.literal_laws.specs.Grammar.{Characters, Says, characters_are_the_grammar}

-- "BlockStringCharacter": `\"""`, which stands for `"""`, or a byte "but not `"""` or `\"""`": neither of these begins there
pub data BlockStringCharacter : List ℕ → List ℕ → List ℕ → Type 0 where
  quotes : {s : List ℕ} → BlockStringCharacter (backslash ∷ triple_quote) triple_quote s
  byte : {b : ℕ} {s : List ℕ} → three_quotes (b ∷ s) ≡ false → eqb b backslash && three_quotes s ≡ false
      → BlockStringCharacter (b ∷ []) (b ∷ []) s

character_is_read : (t u s : List ℕ) → BlockStringCharacter t u s → block_text (t ++ s) ≡ prepend u (block_text s)
character_is_read t u s quotes = escape_read s
character_is_read t u s (byte {b} h k) = byte_read b s h k

-- what a front of block text says
abbrev BlockSays : ℕ → List ℕ → Front → Type 0
BlockSays b s f = Says BlockStringCharacter triple_quote b s f

block_front_says : (b : ℕ) (s : List ℕ) → BlockSays b s (block_front (b ∷ s))
unfolding block_front
block_front_says b s = go (three_quotes (b ∷ s)) (eqb b backslash && three_quotes s) refl refl
  where
    go : (x y : Bool) → three_quotes (b ∷ s) ≡ x → eqb b backslash && three_quotes s ≡ y
        → BlockSays b s (if x then closing 2 else if y then character triple_quote 3 else character (b ∷ []) 0)
    go true y e f = sym (three_quotes_are (b ∷ s) e)
    go false true e f =
        let p : b ≡ backslash = eqb-true b backslash (and_left (eqb b backslash) (three_quotes s) f) in
        let q : s ≡ triple_quote ++ drop 3 s = three_quotes_are s (and_right (eqb b backslash) (three_quotes s) f) in
        (backslash ∷ triple_quote, quotes, ap (λ (x : List ℕ). backslash ∷ x) (sym q) ∙ ap (λ (n : ℕ). n ∷ s) (sym p))
    go false false e f = (b ∷ [], byte e f, refl)

pub block_text_is_the_grammar : (s raw : List ℕ)
    → (characters block_front 0 s ≡ some raw) ↔ Characters BlockStringCharacter triple_quote s raw
block_text_is_the_grammar =
    characters_are_the_grammar block_front BlockStringCharacter triple_quote
    (record { says = block_front_says; reads = character_is_read; closes = closing_quotes_read })
