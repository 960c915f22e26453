-- The characters of block text: a line as it is escaped reads as the line, since each three quotes in it became one character and no
-- three quotes are left; and bytes that are neither quote nor backslash stand for themselves.
use Rattle.std.specs.Prelude.{◌≡◌, Bool, true, not, ◌&&◌, List, [], ◌∷◌, ◌++◌, ℕ, zero, suc, eqb, drop, if◌then◌else◌}
use Rattle.std.proofs.Math.Path.{refl}
use Rattle.std.proofs.Common.{sym, ap, ◌∙◌}
use Rattle.std.proofs.Math.Bool.{false}
use Rattle.std.proofs.Math.Option.{Option, some}
use Rattle.std.proofs.Math.Seq.{drop-nil}
use Rattle.base.specs.Bools.{clash, and_left, and_right, and_both, and_false, not_true}
use Rattle.meaning.specs.Ascii.{quote, backslash, triple_quote}
use Rattle.meaning.specs.Block.{three_quotes, line_after}
use Rattle.meaning.specs.Reading.{character, block_front, prepend, characters}
use Rattle.literal_laws.specs.Quotes.{quote_first, quotes, three_quotes_counted, no_quotes, no_quote_no_three, three_quotes_are}
use Rattle.literal_laws.specs.Characters.{prepend_nothing, prepend_twice, character_read}

-- what block text says from its front on
abbrev pub block_text : List ℕ → Option (List ℕ)
block_text s = characters block_front 0 s

escape_front : (x : List ℕ) → block_front (backslash ∷ (triple_quote ++ x)) ≡ character triple_quote 3
unfolding block_front
escape_front x = refl

pub escape_read : (x : List ℕ) → block_text (backslash ∷ (triple_quote ++ x)) ≡ prepend triple_quote (block_text x)
escape_read x = character_read block_front triple_quote 3 backslash (triple_quote ++ x) (escape_front x)

byte_front : (b : ℕ) (s : List ℕ) → three_quotes (b ∷ s) ≡ false → eqb b backslash && three_quotes s ≡ false
    → block_front (b ∷ s) ≡ character (b ∷ []) 0
unfolding block_front
byte_front b s h k = rw (h, k)

pub byte_read : (b : ℕ) (s : List ℕ) → three_quotes (b ∷ s) ≡ false → eqb b backslash && three_quotes s ≡ false
    → block_text (b ∷ s) ≡ prepend (b ∷ []) (block_text s)
byte_read b s h k = character_read block_front (b ∷ []) 0 b s (byte_front b s h k)

pub closing_quotes_read : block_text triple_quote ≡ some []
unfolding characters block_front
closing_quotes_read = refl

-- ---- an escaped line

-- quotes at the front of an escaped line stand at the front of the line
quotes_of_escaped : (n : ℕ) (l t : List ℕ) → quote_first t ≡ false → quotes n (line_after 0 l ++ t) ≡ true → quotes n l ≡ true
unfolding line_after
quotes_of_escaped zero l t h e = unfold quotes in refl
quotes_of_escaped (suc n) [] t h e = clash e (no_quotes n t h)
quotes_of_escaped (suc n) (b ∷ l) t h e = go (three_quotes (b ∷ l)) e (quotes_of_escaped n l t h)
  where
    go : (x : Bool)
        → quotes (suc n) ((if x then backslash ∷ (triple_quote ++ line_after 2 l) else b ∷ line_after 0 l) ++ t) ≡ true
        → (quotes n (line_after 0 l ++ t) ≡ true → quotes n l ≡ true) → quotes (suc n) (b ∷ l) ≡ true
    go true e ih = unfold quotes in clash e refl
    go false e ih = unfold quotes in
        and_both (eqb b quote) (quotes n l) (and_left (eqb b quote) (quotes n (line_after 0 l ++ t)) e)
        (ih (and_right (eqb b quote) (quotes n (line_after 0 l ++ t)) e))

escaped_begins_with_backslash : (l t : List ℕ) → three_quotes l ≡ true → three_quotes (line_after 0 l ++ t) ≡ false
escaped_begins_with_backslash [] t e = unfold three_quotes in clash e refl
escaped_begins_with_backslash (b ∷ l) t e = unfold line_after in
    rw e (no_quote_no_three (backslash ∷ ((triple_quote ++ line_after 2 l) ++ t)) refl)

no_three_quotes_in_escaped : (l t : List ℕ) → quote_first t ≡ false → three_quotes (line_after 0 l ++ t) ≡ false
no_three_quotes_in_escaped l t h = go (three_quotes (line_after 0 l ++ t)) refl
  where
    go : (x : Bool) → three_quotes (line_after 0 l ++ t) ≡ x → x ≡ false
    go true e =
        let q : quotes 3 l ≡ true = quotes_of_escaped 3 l t h (sym (three_quotes_counted (line_after 0 l ++ t)) ∙ e) in
        sym e ∙ escaped_begins_with_backslash l t (three_quotes_counted l ∙ q)
    go false e = refl

-- the line from its k-th byte on, before a text that begins with no quote
pub escaped_line_read : (k : ℕ) (l t : List ℕ) → quote_first t ≡ false
    → block_text (line_after k l ++ t) ≡ prepend (drop k l) (block_text t)
unfolding line_after
escaped_line_read k [] t h = rw (drop-nil {A = ℕ} k) (sym (prepend_nothing (block_text t)))
escaped_line_read zero (b ∷ l) t h =
    go (three_quotes (b ∷ l)) refl (escaped_line_read 2 l t h) (escaped_line_read 0 l t h) (no_three_quotes_in_escaped (b ∷ l) t h)
  where
    go : (x : Bool) → three_quotes (b ∷ l) ≡ x → block_text (line_after 2 l ++ t) ≡ prepend (drop 2 l) (block_text t)
        → block_text (line_after 0 l ++ t) ≡ prepend l (block_text t)
        → three_quotes ((if x then backslash ∷ (triple_quote ++ line_after 2 l) else b ∷ line_after 0 l) ++ t) ≡ false
        → block_text ((if x then backslash ∷ (triple_quote ++ line_after 2 l) else b ∷ line_after 0 l) ++ t) ≡ prepend (b ∷ l) (block_text t)
    go true e i j n =
        escape_read (line_after 2 l ++ t)
        ∙ ap (prepend triple_quote) i
        ∙ prepend_twice triple_quote (drop 2 l) (block_text t)
        ∙ ap (λ (u : List ℕ). prepend u (block_text t)) (sym (three_quotes_are (b ∷ l) e))
    go false e i j n =
        byte_read b (line_after 0 l ++ t) n (rw (no_three_quotes_in_escaped l t h) (and_false (eqb b backslash)))
        ∙ ap (prepend (b ∷ [])) j
        ∙ prepend_twice (b ∷ []) l (block_text t)
escaped_line_read (suc k) (b ∷ l) t h = escaped_line_read k l t h

-- ---- bytes that stand for themselves

-- neither quote nor backslash
unfoldable pub quiet : List ℕ → Bool
quiet [] = true
quiet (b ∷ s) = not (eqb b quote) && (not (eqb b backslash) && quiet s)

pub quiet_read : (w t : List ℕ) → quiet w ≡ true → block_text (w ++ t) ≡ prepend w (block_text t)
unfolding quiet
quiet_read [] t h = sym (prepend_nothing (block_text t))
quiet_read (b ∷ w) t h =
    let q = not (eqb b quote) in
    let r = not (eqb b backslash) in
    let h1 : r && quiet w ≡ true = and_right q (r && quiet w) h in
    let no_quote = not_true (eqb b quote) (and_left q (r && quiet w) h) in
    let no_backslash = not_true (eqb b backslash) (and_left r (quiet w) h1) in
    byte_read b (w ++ t) (no_quote_no_three (b ∷ (w ++ t)) no_quote) (rw no_backslash)
    ∙ ap (prepend (b ∷ [])) (quiet_read w t (and_right r (quiet w) h1))
    ∙ prepend_twice (b ∷ []) w (block_text t)
