-- Unescaping goes line by line and leaves a line's blanks: `\"""` holds neither a line end nor a blank, and neither has `"""`.
use Rattle.std.specs.Prelude.{◌≡◌, Bool, true, false, ◌&&◌, List, [], ◌∷◌, ◌++◌, map, ℕ, zero, suc, ◌≤◌, eqb, take, drop, if◌then◌else◌}
use Rattle.std.proofs.Math.Path.{refl}
use Rattle.std.proofs.Common.{sym, ap, ◌∙◌, arith, ne_eqb}
use Rattle.std.proofs.Math.Seq.{drop-nil}
use Rattle.base.specs.Bools.{clash}
use Rattle.meaning.specs.Ascii.{line_feed, carriage_return, quote, backslash, triple_quote}
use Rattle.meaning.specs.Settings.{is_blank, blank}
use Rattle.meaning.specs.Block.{onto, indent, common_indent, three_quotes, raw_lines_after}
use Rattle.literal_laws.specs.BlockText.{blank_is_no_other}
use Rattle.literal_laws.specs.Quotes.{quotes, three_quotes_counted}
use Rattle.read_block_laws.specs.Unescaped.{escapes, unescaped_after, unescaped, byte_unescaped, quotes_unescaped, escape_is}
use Rattle.read_block_laws.specs.FirstLine.{is_line_end, line_length, lines_of, other_lines, first_line_and_others}

-- ---- an escape stands in the first line, if it stands at the front

quote_is_no_line_end : (b : ℕ) → is_line_end b ≡ true → eqb b quote ≡ false
quote_is_no_line_end b e = ne_eqb b quote (λ z. clash (ap is_line_end (sym z) ∙ e) (unfold is_line_end in refl))

quotes_in_first_line : (m : ℕ) (s : List ℕ) → quotes m (take (line_length s) s) ≡ quotes m s
unfolding quotes line_length
quotes_in_first_line zero s = refl
quotes_in_first_line (suc m) [] = refl
quotes_in_first_line (suc m) (b ∷ s) = go (is_line_end b) refl (quotes_in_first_line m s)
  where
    go : (x : Bool) → is_line_end b ≡ x → quotes m (take (line_length s) s) ≡ quotes m s
        → quotes (suc m) (take (if x then 0 else suc (line_length s)) (b ∷ s)) ≡ eqb b quote && quotes m s
    go true e ih = rw (quote_is_no_line_end b e)
    go false e ih = rw ih

pub escape_in_first_line : (b : ℕ) (s : List ℕ) → escapes (b ∷ take (line_length s) s) ≡ escapes (b ∷ s)
unfolding escapes
escape_in_first_line b s =
    let l : List ℕ = take (line_length s) s in
    rw (three_quotes_counted l, quotes_in_first_line 3 s, three_quotes_counted s)

-- ---- the lines of unescaped text

escape_before_lines : (cr : Bool) (s : List ℕ)
    → raw_lines_after cr (backslash ∷ (triple_quote ++ s)) ≡ onto backslash (onto quote (onto quote (onto quote (lines_of s))))
unfolding raw_lines_after
escape_before_lines cr s = refl

quotes_before_lines : (cr : Bool) (s : List ℕ)
    → raw_lines_after cr (triple_quote ++ s) ≡ onto quote (onto quote (onto quote (lines_of s)))
unfolding raw_lines_after
quotes_before_lines cr s = refl

quotes_onto : (l : List ℕ) (ls : List (List ℕ))
    → onto quote (onto quote (onto quote (map unescaped (l ∷ ls))))
    ≡ map unescaped (onto backslash (onto quote (onto quote (onto quote (l ∷ ls)))))
unfolding onto unescaped_after three_quotes
quotes_onto l ls = refl

byte_onto : (b : ℕ) (l : List ℕ) (ls : List (List ℕ)) → escapes (b ∷ l) ≡ false
    → onto b (map unescaped (l ∷ ls)) ≡ map unescaped (onto b (l ∷ ls))
unfolding onto
byte_onto b l ls e = rw (byte_unescaped b l e)

pub lines_unescaped : (cr : Bool) (k : ℕ) (s : List ℕ)
    → raw_lines_after cr (unescaped_after k s) ≡ map unescaped (raw_lines_after cr (drop k s))
unfolding unescaped_after
lines_unescaped cr k [] = rw (drop-nil {A = ℕ} k) (unfold raw_lines_after in refl)
lines_unescaped cr zero (b ∷ s) =
    go (escapes (b ∷ s)) refl (lines_unescaped false 3 s) (lines_unescaped false 0 s) (lines_unescaped true 0 s)
  where
    escape : escapes (b ∷ s) ≡ true → lines_of (unescaped_after 3 s) ≡ map unescaped (lines_of (drop 3 s))
        → raw_lines_after cr (triple_quote ++ unescaped_after 3 s) ≡ map unescaped (raw_lines_after cr (b ∷ s))
    escape e ih =
        let t : List ℕ = drop 3 s in
        let p = escape_is b s e in
        let r : raw_lines_after cr (b ∷ s) ≡ onto backslash (onto quote (onto quote (onto quote (lines_of t)))) =
        ap (λ (x : ℕ). raw_lines_after cr (x ∷ s)) p.0
        ∙ ap (λ (x : List ℕ). raw_lines_after cr (backslash ∷ x)) p.1
        ∙ escape_before_lines cr t in
        quotes_before_lines cr (unescaped_after 3 s)
        ∙ rw (ih, r, first_line_and_others t) (quotes_onto (take (line_length t) t) (other_lines (drop (line_length t) t)))

    text : escapes (b ∷ s) ≡ false → onto b (map unescaped (lines_of s)) ≡ map unescaped (onto b (lines_of s))
    text e =
        rw (first_line_and_others s)
        (byte_onto b (take (line_length s) s) (other_lines (drop (line_length s) s)) (escape_in_first_line b s ∙ e))

    byte : (cr x y : Bool) → escapes (b ∷ s) ≡ false → lines_of (unescaped s) ≡ map unescaped (lines_of s)
        → raw_lines_after true (unescaped s) ≡ map unescaped (raw_lines_after true s)
        → (if x
        then (if cr then lines_of (unescaped s) else [] ∷ lines_of (unescaped s))
        else if y then [] ∷ raw_lines_after true (unescaped s) else onto b (lines_of (unescaped s)))
        ≡ map unescaped
        (if x then (if cr then lines_of s else [] ∷ lines_of s) else if y then [] ∷ raw_lines_after true s else onto b (lines_of s))
    byte true true y e i j = i
    byte false true y e i j = rw i
    byte cr false true e i j = rw j
    byte cr false false e i j = rw i (text e)

    go : (x : Bool) → escapes (b ∷ s) ≡ x → lines_of (unescaped_after 3 s) ≡ map unescaped (lines_of (drop 3 s))
        → lines_of (unescaped s) ≡ map unescaped (lines_of s)
        → raw_lines_after true (unescaped s) ≡ map unescaped (raw_lines_after true s)
        → raw_lines_after cr (if x then triple_quote ++ unescaped_after 3 s else b ∷ unescaped s)
        ≡ map unescaped (raw_lines_after cr (b ∷ s))
    go true e i j k = escape e i
    go false e i j k = unfold raw_lines_after in byte cr (eqb b line_feed) (eqb b carriage_return) e j k
lines_unescaped cr (suc k) (b ∷ s) = lines_unescaped cr k s

-- ---- a line's blanks

blank_does_not_escape : (b : ℕ) (l : List ℕ) → is_blank b ≡ true → escapes (b ∷ l) ≡ false
unfolding escapes
blank_does_not_escape b l e = rw (blank_is_no_other b backslash e (λ z. omega arith) (λ z. omega arith))

escape_is_no_blank : (b : ℕ) (l : List ℕ) → escapes (b ∷ l) ≡ true → is_blank b ≡ false
escape_is_no_blank b l e = rw (escape_is b l e).0 (unfold is_blank in refl)

quote_is_no_blank : is_blank quote ≡ false
unfolding is_blank
quote_is_no_blank = refl

pub blank_unescaped : (l : List ℕ) → blank (unescaped l) ≡ blank l
unfolding blank
blank_unescaped [] = unfold unescaped_after in refl
blank_unescaped (b ∷ l) = go (escapes (b ∷ l)) refl (blank_unescaped l)
  where
    go : (x : Bool) → escapes (b ∷ l) ≡ x → blank (unescaped l) ≡ blank l → blank (unescaped (b ∷ l)) ≡ is_blank b && blank l
    go true e ih = rw (quotes_unescaped b l e, quote_is_no_blank, escape_is_no_blank b l e)
    go false e ih = rw (byte_unescaped b l e, ih)

pub indent_unescaped : (l : List ℕ) → indent (unescaped l) ≡ indent l
unfolding indent
indent_unescaped [] = unfold unescaped_after in refl
indent_unescaped (b ∷ l) = go (escapes (b ∷ l)) refl (indent_unescaped l)
  where
    go : (x : Bool) → escapes (b ∷ l) ≡ x → indent (unescaped l) ≡ indent l
        → indent (unescaped (b ∷ l)) ≡ (if is_blank b then suc (indent l) else 0)
    go true e ih = rw (quotes_unescaped b l e, escape_is_no_blank b l e)
    go false e ih = rw (byte_unescaped b l e, ih)

pub blanks_dropped_unescaped : (n : ℕ) (l : List ℕ) → n ≤ indent l → drop n (unescaped l) ≡ unescaped (drop n l)
unfolding indent
blanks_dropped_unescaped zero l h = refl
blanks_dropped_unescaped (suc n) [] h = absurd (omega arith)
blanks_dropped_unescaped (suc n) (b ∷ l) h = go (is_blank b) refl h (blanks_dropped_unescaped n l)
  where
    go : (x : Bool) → is_blank b ≡ x → suc n ≤ (if x then suc (indent l) else 0)
        → (n ≤ indent l → drop n (unescaped l) ≡ unescaped (drop n l)) → drop (suc n) (unescaped (b ∷ l)) ≡ unescaped (drop n l)
    go true e h ih = rw (byte_unescaped b l (blank_does_not_escape b l e)) (ih (omega arith))
    go false e h ih = absurd (omega arith)

pub common_indent_unescaped : (ls : List (List ℕ)) → common_indent (map unescaped ls) ≡ common_indent ls
unfolding common_indent
common_indent_unescaped [] = refl
common_indent_unescaped (l ∷ ls) = rw (blank_unescaped l, indent_unescaped l, common_indent_unescaped ls)
