-- The block form between its quotes reads as raw text: the lines, each after LF and its indentation, and in the end LF and the
-- indentation; or, on one line, the value, which then ends in neither quote nor backslash.
use Rattle.std.specs.Prelude.{◌≡◌, Bool, true, false, ◌||◌, ℕ, zero, suc, ◌≤◌, eqb, length, if◌then◌else◌}
use Rattle.std.proofs.Math.Path.{refl, sym, ap}
use Rattle.std.proofs.Common.{◌∙◌, arith, eqb-true, ne_eqb}
use Rattle.std.proofs.Math.Option.{some}
use mathlib.Core.List.{List, [], ◌∷◌, ◌++◌, append_assoc, append-nil}
use Rattle.base.specs.Bools.{and_left, and_right}
use Rattle.meaning.specs.Ascii.{space, tab, line_feed, quote, backslash, triple_quote}
use Rattle.meaning.specs.Settings.{is_blank, blank}
use Rattle.meaning.specs.Block.{last_byte, three_quotes, line_after, escaped_line, block_line, block_lines}
use Rattle.meaning.specs.Reading.{prepend}
use Rattle.literal_laws.specs.Quotes.{quote_first, no_quote_no_three, three_quotes_are_long, three_quotes_before}
use Rattle.literal_laws.specs.Characters.{prepend_nothing, prepend_twice, prepend_some}
use Rattle.literal_laws.specs.BlockCharacters.{block_text, byte_read, closing_quotes_read, escaped_line_read, quiet, quiet_read}

-- ---- several lines

pub blank_is_no_other : (b m : ℕ) → is_blank b ≡ true → (m ≡ space → ⊥) → (m ≡ tab → ⊥) → eqb b m ≡ false
unfolding is_blank
blank_is_no_other b m h p q = go (eqb b space) refl h
  where
    go : (x : Bool) → eqb b space ≡ x → x || eqb b tab ≡ true → eqb b m ≡ false
    go true e h = ne_eqb b m (λ z. p (sym z ∙ eqb-true b space e))
    go false e h = ne_eqb b m (λ z. q (sym z ∙ eqb-true b tab h))

blank_is_quiet : (ind : List ℕ) → blank ind ≡ true → quiet ind ≡ true
unfolding blank quiet
blank_is_quiet [] h = refl
blank_is_quiet (b ∷ ind) h =
    let e = and_left (is_blank b) (blank ind) h in
    rw (
      blank_is_no_other b quote e (λ z. omega arith) (λ z. omega arith),
      blank_is_no_other b backslash e (λ z. omega arith) (λ z. omega arith),
    ) (blank_is_quiet ind (and_right (is_blank b) (blank ind) h))

-- a line with its indentation, not escaped
unfoldable pub indented : List ℕ → List ℕ → List ℕ
indented ind [] = []
indented ind (b ∷ l) = ind ++ (b ∷ l)

-- the raw text of lines: LF before each
unfoldable pub raw_of : List ℕ → List (List ℕ) → List ℕ
unfolding indented
raw_of ind [] = []
raw_of ind (l ∷ ls) = (line_feed ∷ indented ind l) ++ raw_of ind ls

block_lines_begin : (ind : List ℕ) (ls : List (List ℕ)) (t : List ℕ) → quote_first t ≡ false
    → quote_first (block_lines ind ls ++ t) ≡ false
unfolding block_lines block_line
block_lines_begin ind [] t h = h
block_lines_begin ind ([] ∷ ls) t h = refl
block_lines_begin ind ((b ∷ l) ∷ ls) t h = refl

module _ (ind : List ℕ) (bl : blank ind ≡ true) where
  block_line_read : (l t : List ℕ) → quote_first t ≡ false
      → block_text (block_line ind l ++ t) ≡ prepend (line_feed ∷ indented ind l) (block_text t)
  unfolding block_line indented quiet
  block_line_read [] t h = quiet_read (line_feed ∷ []) t refl
  block_line_read (b ∷ l) t h =
      rw append_assoc (quiet_read (line_feed ∷ ind) (escaped_line (b ∷ l) ++ t) (blank_is_quiet ind bl))
      ∙ ap (prepend (line_feed ∷ ind)) (unfold escaped_line in escaped_line_read 0 (b ∷ l) t h)
      ∙ prepend_twice (line_feed ∷ ind) (b ∷ l) (block_text t)

  block_lines_read : (ls : List (List ℕ)) (t : List ℕ) → quote_first t ≡ false
      → block_text (block_lines ind ls ++ t) ≡ prepend (raw_of ind ls) (block_text t)
  unfolding block_lines raw_of
  block_lines_read [] t h = sym (prepend_nothing (block_text t))
  block_lines_read (l ∷ ls) t h =
      rw append_assoc (block_line_read l (block_lines ind ls ++ t) (block_lines_begin ind ls t h))
      ∙ ap (prepend (line_feed ∷ indented ind l)) (block_lines_read ls t h)
      ∙ prepend_twice (line_feed ∷ indented ind l) (raw_of ind ls) (block_text t)

  last_line_read : block_text ((line_feed ∷ ind) ++ triple_quote) ≡ some (line_feed ∷ ind)
  last_line_read =
      quiet_read (line_feed ∷ ind) triple_quote (unfold quiet in blank_is_quiet ind bl)
      ∙ ap (prepend (line_feed ∷ ind)) closing_quotes_read
      ∙ prepend_some (line_feed ∷ ind) []
      ∙ ap some (append-nil (line_feed ∷ ind))

  pub several_lines_read : (ls : List (List ℕ))
      → block_text (block_lines ind ls ++ ((line_feed ∷ ind) ++ triple_quote)) ≡ some (raw_of ind ls ++ (line_feed ∷ ind))
  several_lines_read ls =
      block_lines_read ls ((line_feed ∷ ind) ++ triple_quote) refl
      ∙ ap (prepend (raw_of ind ls)) last_line_read
      ∙ prepend_some (raw_of ind ls) (line_feed ∷ ind)

-- ---- one line

-- all bytes but the last
unfoldable all_but_last : List ℕ → List ℕ
all_but_last [] = []
all_but_last (b ∷ []) = []
all_but_last (b ∷ (c ∷ v)) = b ∷ all_but_last (c ∷ v)

by_last_byte : (b : ℕ) (v : List ℕ) → b ∷ v ≡ all_but_last (b ∷ v) ++ (last_byte (b ∷ v) ∷ [])
unfolding all_but_last last_byte
by_last_byte b [] = refl
by_last_byte b (c ∷ v) = rw (← (by_last_byte c v))

escaped_before : (k : ℕ) (w : List ℕ) (x : ℕ) → k ≤ length w → eqb x quote ≡ false
    → line_after k (w ++ (x ∷ [])) ≡ line_after k w ++ (x ∷ [])
unfolding line_after
escaped_before zero [] x k h = unfold three_quotes in refl
escaped_before (suc n) [] x k h = absurd (omega arith)
escaped_before zero (a ∷ w) x k h =
    rw (three_quotes_before (a ∷ w) x h)
    (go (three_quotes (a ∷ w)) refl (λ g. escaped_before 2 w x g h) (escaped_before 0 w x (omega arith) h))
  where
    go : (y : Bool) → three_quotes (a ∷ w) ≡ y → (2 ≤ length w → line_after 2 (w ++ (x ∷ [])) ≡ line_after 2 w ++ (x ∷ []))
        → line_after 0 (w ++ (x ∷ [])) ≡ line_after 0 w ++ (x ∷ [])
        → (if y then backslash ∷ (triple_quote ++ line_after 2 (w ++ (x ∷ []))) else a ∷ line_after 0 (w ++ (x ∷ [])))
        ≡ (if y then backslash ∷ (triple_quote ++ line_after 2 w) else a ∷ line_after 0 w) ++ (x ∷ [])
    go true e i j = rw (i (three_quotes_are_long a w e))
    go false e i j = rw j
escaped_before (suc n) (a ∷ w) x k h = escaped_before n w x (omega arith) h

last_byte_read : (x : ℕ) → eqb x quote ≡ false → eqb x backslash ≡ false → block_text (x ∷ triple_quote) ≡ some (x ∷ [])
last_byte_read x p q =
    byte_read x triple_quote (no_quote_no_three (x ∷ triple_quote) p) (rw q)
    ∙ ap (prepend (x ∷ [])) closing_quotes_read
    ∙ prepend_some (x ∷ []) []

one_line_read_by_last : (v w : List ℕ) (x : ℕ) → v ≡ w ++ (x ∷ []) → eqb x quote ≡ false → eqb x backslash ≡ false
    → block_text (line_after 0 v ++ triple_quote) ≡ some v
one_line_read_by_last v w x e p q =
    rw (e, escaped_before 0 w x (omega arith) p, append_assoc)
    (escaped_line_read 0 w (x ∷ triple_quote) p ∙ ap (prepend w) (last_byte_read x p q) ∙ prepend_some w (x ∷ []))

pub one_line_read : (b : ℕ) (v : List ℕ) → eqb (last_byte (b ∷ v)) quote ≡ false → eqb (last_byte (b ∷ v)) backslash ≡ false
    → block_text (escaped_line (b ∷ v) ++ triple_quote) ≡ some (b ∷ v)
unfolding escaped_line
one_line_read b v p q = one_line_read_by_last (b ∷ v) (all_but_last (b ∷ v)) (last_byte (b ∷ v)) (by_last_byte b v) p q
