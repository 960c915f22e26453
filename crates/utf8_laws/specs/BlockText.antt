-- The block form of a UTF-8 value is UTF-8: its lines are split at an ASCII byte, an escape puts ASCII in front of ASCII quotes, and
-- the quotes, line feeds and indentation around them are ASCII.
use Rattle.std.specs.Prelude.{◌≡◌, Bool, ◌&&◌, ◌||◌, ℕ, ◌<◌, eqb, ltb, if◌then◌else◌}
use Rattle.std.proofs.Math.Path.{refl, ap}
use Rattle.std.proofs.Common.{sym, ◌∙◌, arith, eqb-true, lt-ltb}
use Rattle.std.proofs.Math.Bool.{true, false}
use mathlib.Core.List.{List, [], ◌∷◌, ◌++◌, append_assoc}
use Rattle.base.specs.Bools.{clash, and_left, and_right, and_both}
use Rattle.meaning.specs.Ascii.{tab, line_feed, space, quote, backslash, triple_quote}
use Rattle.meaning.specs.Utf8.{utf8_after, utf8}
use Rattle.meaning.specs.Settings.{is_blank, blank}
use Rattle.meaning.specs.Block.{onto, lines, multi_line, three_quotes, escaped_line, block_line, block_lines, block_string}
use Rattle.utf8_laws.specs.Steps.{whole_ends, between_sequences}
use Rattle.utf8_laws.specs.Append.{Left, left_by, append_after, ascii_first, all_ascii, ascii_is_utf8, ascii_stands_between, ascii_in_place}

-- ---- a line

line_of_three : (a b c : ℕ) (s : List ℕ) →
    escaped_line (a ∷ b ∷ c ∷ s)
    ≡ (if three_quotes (a ∷ b ∷ c ∷ s) then (backslash ∷ triple_quote) ++ escaped_line s else a ∷ escaped_line (b ∷ c ∷ s))
unfolding escaped_line
line_of_three a b c s = refl

-- what three quotes at the front say
three_are_quotes : (a b c : ℕ) (s : List ℕ) → three_quotes (a ∷ b ∷ c ∷ s) ≡ true → (a ≡ quote) × (b ≡ quote) × (c ≡ quote)
unfolding three_quotes
three_are_quotes a b c s h =
    let g = and_right (eqb a quote) (eqb b quote && eqb c quote) h in (
      eqb-true a quote (and_left (eqb a quote) _ h),
      eqb-true b quote (and_left (eqb b quote) (eqb c quote) g),
      eqb-true c quote (and_right (eqb b quote) (eqb c quote) g),
    )

pub escaped_line_after : (k low n : ℕ) (l t : List ℕ) → utf8_after k low n l ≡ true → utf8_after k low n (escaped_line l ++ t) ≡ utf8 t
escaped_line_after k low n [] t h = unfold escaped_line in append_after k low n [] t h
escaped_line_after k low n (a ∷ []) t h = unfold escaped_line in append_after k low n (a ∷ []) t h
escaped_line_after k low n (a ∷ (b ∷ [])) t h = unfold escaped_line in append_after k low n (a ∷ b ∷ []) t h
escaped_line_after k low n (a ∷ (b ∷ (c ∷ s))) t h =
    ap (λ (x : List ℕ). utf8_after k low n (x ++ t)) (line_of_three a b c s)
    ∙ go (three_quotes (a ∷ b ∷ c ∷ s)) refl (left_by k low n a (b ∷ c ∷ s) h) (λ m l w g. escaped_line_after m l w (b ∷ (c ∷ s)) t g)
    (λ g. sym (between_sequences 0 0 (escaped_line s ++ t)) ∙ escaped_line_after 0 0 0 s t (between_sequences 0 0 s ∙ g))
  where
    go : (x : Bool) → three_quotes (a ∷ b ∷ c ∷ s) ≡ x → Left k low n a (b ∷ c ∷ s)
        → ((m l w : ℕ) → utf8_after m l w (b ∷ c ∷ s) ≡ true → utf8_after m l w (escaped_line (b ∷ c ∷ s) ++ t) ≡ utf8 t)
        → (utf8 s ≡ true → utf8 (escaped_line s ++ t) ≡ utf8 t)
        → utf8_after k low n ((if x then (backslash ∷ triple_quote) ++ escaped_line s else a ∷ escaped_line (b ∷ c ∷ s)) ++ t) ≡ utf8 t
    go true e l ih past =
        let q = three_are_quotes a b c s e in
        let skip : utf8 (b ∷ c ∷ s) ≡ utf8 s = ascii_first b (c ∷ s) (omega (arith, q.1)) ∙ ascii_first c s (omega (arith, q.2)) in
        ascii_in_place k low n a (b ∷ c ∷ s) (backslash ∷ triple_quote) (escaped_line s ++ t) (utf8 t)
        (omega (arith, q.0)) h (unfold all_ascii in refl) (λ g. past (sym skip ∙ g))
    go false e l ih past =
        l.same (escaped_line (b ∷ c ∷ s) ++ t) ∙ ih l.more l.lowest l.value l.good

pub escaped_line_is_utf8 : (l t : List ℕ) → utf8 l ≡ true → utf8 (escaped_line l ++ t) ≡ utf8 t
unfolding utf8
escaped_line_is_utf8 l t h = escaped_line_after 0 0 0 l t h

-- ---- the lines of a value

unfoldable pub all_utf8 : List (List ℕ) → Bool
all_utf8 [] = true
all_utf8 (l ∷ ls) = utf8 l && all_utf8 ls

-- the first line is good in a state, the others between sequences
unfoldable good_lines : ℕ → ℕ → ℕ → List (List ℕ) → Bool
unfolding all_utf8
good_lines k low n [] = false
good_lines k low n (l ∷ ls) = utf8_after k low n l && all_utf8 ls

good_between : (ls : List (List ℕ)) → good_lines 0 0 0 ls ≡ true → all_utf8 ls ≡ true
unfolding good_lines utf8
good_between [] h = refl
good_between (l ∷ ls) h = h

good_onto : (k low n b : ℕ) (s : List ℕ) (ls : List (List ℕ)) (l : Left k low n b s)
    → good_lines l.more l.lowest l.value ls ≡ true → good_lines k low n (onto b ls) ≡ true
unfolding good_lines onto
good_onto k low n b s [] l h = clash h refl
good_onto k low n b s (m ∷ ms) l h =
    and_both (utf8_after k low n (b ∷ m)) (all_utf8 ms)
    (l.same m ∙ and_left (utf8_after l.more l.lowest l.value m) (all_utf8 ms) h)
    (and_right (utf8_after l.more l.lowest l.value m) (all_utf8 ms) h)

good_split : (k low n b : ℕ) (v : List ℕ) (ls : List (List ℕ)) → b ≡ line_feed → utf8_after k low n (b ∷ v) ≡ true
    → (utf8 v ≡ true → all_utf8 ls ≡ true) → good_lines k low n ([] ∷ ls) ≡ true
unfolding good_lines
good_split k low n b v ls e h rest =
    let z = ascii_stands_between k low n b v (omega arith) h in
    and_both (utf8_after k low n []) (all_utf8 ls)
    (ap (λ (j : ℕ). utf8_after j low n []) z.0 ∙ whole_ends low n) (rest z.1)

lines_after : (k low n : ℕ) (v : List ℕ) → utf8_after k low n v ≡ true → good_lines k low n (lines v) ≡ true
unfolding lines good_lines
lines_after k low n [] h = and_both (utf8_after k low n []) true h refl
lines_after k low n (b ∷ v) h =
    go (eqb b line_feed) refl (left_by k low n b v h) (λ m l w g. lines_after m l w v g)
  where
    go : (x : Bool) → eqb b line_feed ≡ x → Left k low n b v
        → ((m l w : ℕ) → utf8_after m l w v ≡ true → good_lines m l w (lines v) ≡ true)
        → good_lines k low n (if x then [] ∷ lines v else onto b (lines v)) ≡ true
    go true e l ih =
        good_split k low n b v (lines v) (eqb-true b line_feed e) h
        (λ g. good_between (lines v) (ih 0 0 0 (between_sequences 0 0 v ∙ g)))
    go false e l ih = good_onto k low n b v (lines v) l (ih l.more l.lowest l.value l.good)

pub lines_are_utf8 : (v : List ℕ) → utf8 v ≡ true → all_utf8 (lines v) ≡ true
lines_are_utf8 v h = good_between (lines v) (lines_after 0 0 0 v (between_sequences 0 0 v ∙ h))

-- ---- the whole form

blank_is_ascii : (ind : List ℕ) → blank ind ≡ true → all_ascii ind ≡ true
unfolding blank all_ascii
blank_is_ascii [] h = refl
blank_is_ascii (b ∷ ind) h =
    and_both (ltb b 0x80) (all_ascii ind) (lt-ltb b 0x80 (small (eqb b space) refl (and_left (is_blank b) (blank ind) h)))
    (blank_is_ascii ind (and_right (is_blank b) (blank ind) h))
  where
    small : (x : Bool) → eqb b space ≡ x → x || eqb b tab ≡ true → b < 0x80
    small true e g = omega (arith, eqb-true b space e)
    small false e g = omega (arith, eqb-true b tab g)

module _ (ind : List ℕ) (i : all_ascii ind ≡ true) where
  block_line_is_utf8 : (l t : List ℕ) → utf8 l ≡ true → utf8 (block_line ind l ++ t) ≡ utf8 t
  unfolding block_line
  block_line_is_utf8 [] t h = ascii_first line_feed t (omega arith)
  block_line_is_utf8 (b ∷ l) t h =
      ascii_first line_feed ((ind ++ escaped_line (b ∷ l)) ++ t) (omega arith)
      ∙ ap utf8 (append_assoc ind (escaped_line (b ∷ l)) t) ∙ ascii_is_utf8 ind (escaped_line (b ∷ l) ++ t) i
      ∙ escaped_line_is_utf8 (b ∷ l) t h

  block_lines_are_utf8 : (ls : List (List ℕ)) (t : List ℕ) → all_utf8 ls ≡ true → utf8 (block_lines ind ls ++ t) ≡ utf8 t
  unfolding block_lines all_utf8
  block_lines_are_utf8 [] t h = refl
  block_lines_are_utf8 (l ∷ ls) t h =
      ap utf8 (append_assoc (block_line ind l) (block_lines ind ls) t)
      ∙ block_line_is_utf8 l (block_lines ind ls ++ t) (and_left (utf8 l) (all_utf8 ls) h)
      ∙ block_lines_are_utf8 ls t (and_right (utf8 l) (all_utf8 ls) h)

pub block_is_utf8 : (ind v : List ℕ) → blank ind ≡ true → utf8 v ≡ true → utf8 (block_string ind v) ≡ true
block_is_utf8 ind v i h = unfold block_string in go (multi_line v)
  where
    a : all_ascii ind ≡ true
    a = blank_is_ascii ind i

    quotes : (t : List ℕ) → utf8 (triple_quote ++ t) ≡ utf8 t
    quotes t = ascii_is_utf8 triple_quote t (unfold all_ascii in refl)

    go : (x : Bool)
        → utf8
        (if x
        then triple_quote ++ (block_lines ind (lines v) ++ ((line_feed ∷ ind) ++ triple_quote))
        else triple_quote ++ (escaped_line v ++ triple_quote))
        ≡ true
    go true =
        quotes (block_lines ind (lines v) ++ ((line_feed ∷ ind) ++ triple_quote))
        ∙ block_lines_are_utf8 ind a (lines v) ((line_feed ∷ ind) ++ triple_quote) (lines_are_utf8 v h)
        ∙ ascii_is_utf8 (line_feed ∷ ind) triple_quote (unfold all_ascii in a) ∙ (unfold utf8 in refl)
    go false = quotes (escaped_line v ++ triple_quote) ∙ escaped_line_is_utf8 v triple_quote h ∙ (unfold utf8 in refl)
