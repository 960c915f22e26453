-- Whether a text is closed, a character at a time: three quotes close it if nothing follows them, and an escape or any other byte
-- is passed over.
use Rattle.std.specs.Prelude.{◌≡◌, Bool, true, false, ◌&&◌, List, [], ◌∷◌, ℕ, suc, ◌+◌, ◌-◌, ◌≤◌, ◌<◌, eqb, length, take, drop, get_or}
use Rattle.std.proofs.Math.Path.{refl, ap}
use Rattle.std.proofs.Common.{sym, ◌∙◌, add-one, arith, length-drop, drop_of_length-le, drop-cons, drop-drop, eq-eqb, ne_eqb}
use Rattle.std.proofs.Math.Option.{Option, none, some}
use Rattle.std.proofs.Math.Decide.{dec_le}
use Rattle.base.specs.Bools.{clash}
use Rattle.meaning.specs.Ascii.{quote, backslash, triple_quote}
use Rattle.meaning.specs.Block.{three_quotes}
use Rattle.meaning.specs.Reading.{closing, block_front, prepend, nothing_more, characters}
use Rattle.literal_laws.specs.BlockCharacters.{block_text, escape_read, byte_read}
use Rattle.literal_laws.specs.Characters.{closing_read}
use Rattle.literal_laws.specs.Quotes.{three_quotes_are_long}
use Rattle.read_block_laws.specs.Unescaped.{escapes, escape_is, escape_is_long, unescaped, is_some, closed_text}

-- block text up to closing quotes that end it
unfoldable pub closed : List ℕ → Bool
closed s = is_some (block_text s)

-- ---- three quotes and escapes by places

pub three_quotes_within : (s : List ℕ) (i : ℕ) → three_quotes (drop i s) ≡ true → i + 3 ≤ length s
three_quotes_within s i e = go (dec_le (suc i) (length s))
  where
    no_quotes : three_quotes [] ≡ false
    no_quotes = unfold three_quotes in refl

    go : Dec (suc i ≤ length s) → i + 3 ≤ length s
    go (yes h) =
        let d : drop i s ≡ get_or s i 0 ∷ drop (suc i) s = drop-cons s i 0 h in
        omega (arith, three_quotes_are_long (get_or s i 0) (drop (suc i) s) (rw d at e), length-drop (suc i) s)
    go (no h) =
        let k : length s ≤ i = omega arith in
        let f : three_quotes [] ≡ true = rw (drop_of_length-le s k) at e in
        clash f no_quotes

pub three_quotes_at : (s : List ℕ) (i : ℕ) → i + 3 ≤ length s
    → three_quotes (drop i s) ≡ eqb (get_or s i 0) quote && (eqb (get_or s (i + 1) 0) quote && eqb (get_or s (i + 2) 0) quote)
unfolding three_quotes
three_quotes_at s i h =
    let a : drop i s ≡ get_or s i 0 ∷ drop (suc i) s = drop-cons s i 0 (omega arith) in
    let b : drop (suc i) s ≡ get_or s (suc i) 0 ∷ drop (suc (suc i)) s = drop-cons s (suc i) 0 (omega arith) in
    let c : drop (suc (suc i)) s ≡ get_or s (suc (suc i)) 0 ∷ drop (suc (suc (suc i))) s =
    drop-cons s (suc (suc i)) 0 (omega arith) in
    let m : i + 1 ≡ suc i = omega arith in
    let n : i + 2 ≡ suc (suc i) = omega arith in
    rw (a, b, c, m, n)

pub no_room_for_three_quotes : (s : List ℕ) (i : ℕ) → length s < i + 3 → three_quotes (drop i s) ≡ false
no_room_for_three_quotes s i h = go (three_quotes (drop i s)) refl
  where
    go : (x : Bool) → three_quotes (drop i s) ≡ x → x ≡ false
    go true e = absurd (omega (arith, three_quotes_within s i e))
    go false e = refl

pub escape_at : (s : List ℕ) (i : ℕ) → i < length s
    → escapes (drop i s) ≡ eqb (get_or s i 0) backslash && three_quotes (drop (i + 1) s)
escape_at s i h = rw (drop-cons s i 0 h, add-one i) (unfold escapes in refl)

pub no_escape_past_the_end : (s : List ℕ) (i : ℕ) → length s ≤ i → escapes (drop i s) ≡ false
no_escape_past_the_end s i h = rw (drop_of_length-le s h) (unfold escapes in refl)

pub escape_within : (s : List ℕ) (i : ℕ) → i < length s → escapes (drop i s) ≡ true → i + 4 ≤ length s
escape_within s i h e =
    omega (arith, escape_is_long (get_or s i 0) (drop (suc i) s) (rw (drop-cons s i 0 h) at e), length-drop (suc i) s)

-- ---- a turn of the walk

some_prepended : (t : List ℕ) (o : Option (List ℕ)) → is_some (prepend t o) ≡ is_some o
unfolding prepend
some_prepended t none = refl
some_prepended t (some v) = refl

nothing_follows : (t : List ℕ) → is_some (nothing_more t) ≡ eqb (length t) 0
unfolding nothing_more
nothing_follows [] = refl
nothing_follows (b ∷ t) = sym (ne_eqb (length (b ∷ t)) 0 (λ z. omega arith))

closed_by_quotes : (b : ℕ) (s : List ℕ) → three_quotes (b ∷ s) ≡ true → closed (b ∷ s) ≡ eqb (length (drop 2 s)) 0
unfolding closed
closed_by_quotes b s e =
    let f : block_front (b ∷ s) ≡ closing 2 = unfold block_front in rw e in
    ap is_some (closing_read block_front 2 b s f) ∙ nothing_follows (drop 2 s)

closed_after_escape : (b : ℕ) (s : List ℕ) → escapes (b ∷ s) ≡ true → closed (b ∷ s) ≡ closed (drop 3 s)
unfolding closed
closed_after_escape b s e =
    let p = escape_is b s e in
    ap (λ (x : ℕ). closed (x ∷ s)) p.0
    ∙ ap (λ (x : List ℕ). closed (backslash ∷ x)) p.1
    ∙ ap is_some (escape_read (drop 3 s))
    ∙ some_prepended triple_quote (block_text (drop 3 s))

pub closed_after_byte : (b : ℕ) (s : List ℕ) → three_quotes (b ∷ s) ≡ false → escapes (b ∷ s) ≡ false → closed (b ∷ s) ≡ closed s
unfolding closed escapes
closed_after_byte b s e f = ap is_some (byte_read b s e f) ∙ some_prepended (b ∷ []) (block_text s)

module _ (s : List ℕ) (i : ℕ) where
  pub quotes_close : three_quotes (drop i s) ≡ true → closed (drop i s) ≡ eqb (i + 3) (length s)
  quotes_close e =
      let h = three_quotes_within s i e in
      let d : drop i s ≡ get_or s i 0 ∷ drop (suc i) s = drop-cons s i 0 (omega arith) in
      let n : suc i + 2 ≡ i + 3 = omega arith in
      let r : drop 2 (drop (suc i) s) ≡ drop (i + 3) s = drop-drop 2 (suc i) s ∙ rw n in
      rw (d, closed_by_quotes (get_or s i 0) (drop (suc i) s) (rw d at e), r) (go h (dec_le (length s) (i + 3)))
    where
      go : i + 3 ≤ length s → Dec (length s ≤ i + 3) → eqb (length (drop (i + 3) s)) 0 ≡ eqb (i + 3) (length s)
      go h (yes k) =
          eq-eqb (length (drop (i + 3) s)) 0 (omega (arith, length-drop (i + 3) s)) ∙ sym (eq-eqb (i + 3) (length s) (omega arith))
      go h (no k) =
          ne_eqb (length (drop (i + 3) s)) 0 (λ z. omega (arith, length-drop (i + 3) s))
          ∙ sym (ne_eqb (i + 3) (length s) (λ z. omega arith))

  pub escape_is_passed : i < length s → escapes (drop i s) ≡ true → closed (drop i s) ≡ closed (drop (i + 4) s)
  escape_is_passed h e =
      let d : drop i s ≡ get_or s i 0 ∷ drop (suc i) s = drop-cons s i 0 h in
      let n : suc i + 3 ≡ i + 4 = omega arith in
      rw (d, closed_after_escape (get_or s i 0) (drop (suc i) s) (rw d at e), drop-drop 3 (suc i) s, n)

  pub byte_is_passed : i < length s → three_quotes (drop i s) ≡ false → escapes (drop i s) ≡ false
      → closed (drop i s) ≡ closed (drop (i + 1) s)
  byte_is_passed h e f =
      let d : drop i s ≡ get_or s i 0 ∷ drop (suc i) s = drop-cons s i 0 h in
      rw (d, add-one i) (closed_after_byte (get_or s i 0) (drop (suc i) s) (rw d at e) (rw d at f))

  pub nothing_closes : length s ≤ i → closed (drop i s) ≡ false
  unfolding closed
  nothing_closes h = rw (drop_of_length-le s h) (unfold characters in refl)

-- a text that is closed says its source up to the last three bytes, unescaped
pub closed_reads : (s : List ℕ) → closed s ≡ true
    → (3 ≤ length s) × (characters block_front 0 s ≡ some (unescaped (take (length s - 3) s)))
unfolding closed
closed_reads s h = go (block_text s) refl h
  where
    go : (o : Option (List ℕ)) → block_text s ≡ o → is_some o ≡ true
        → (3 ≤ length s) × (characters block_front 0 s ≡ some (unescaped (take (length s - 3) s)))
    go none e h = clash h refl
    go (some v) e h = let c = closed_text 0 s v e in (omega (arith, c.long), e ∙ ap some c.says)

pub not_closed_does_not_read : (s : List ℕ) → closed s ≡ false → characters block_front 0 s ≡ none
unfolding closed
not_closed_does_not_read s h = go (block_text s) refl h
  where
    go : (o : Option (List ℕ)) → block_text s ≡ o → is_some o ≡ false → characters block_front 0 s ≡ none
    go none e h = e
    go (some v) e h = clash refl h
