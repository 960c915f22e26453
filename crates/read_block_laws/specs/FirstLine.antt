-- The lines of raw text, one after the other: the first goes up to the first line end, and the others are the lines after it. Its
-- blanks are the blanks at the front of the text, since no line end is a blank.
use Rattle.std.specs.Prelude.{◌≡◌, Bool, ◌&&◌, ◌||◌, ℕ, zero, suc, ◌+◌, ◌≤◌, ◌<◌, length, take, drop, get_or, if◌then◌else◌}
use Rattle.std.proofs.Math.Path.{refl}
use Rattle.std.proofs.Common.{sym, ap, ◌∙◌, arith, drop_of_length-le, drop-cons, eqb-true}
use Rattle.std.proofs.Math.Bool.{true, false}
use mathlib.Core.List.{List, [], ◌∷◌}
use Rattle.std.proofs.Math.Dec.{eqb}
use Rattle.base.specs.Bools.{clash, or_left_false, or_right_false, or_both_false}
use Rattle.meaning.specs.Ascii.{line_feed, carriage_return}
use Rattle.meaning.specs.Settings.{is_blank, blank}
use Rattle.meaning.specs.Block.{onto, indent, raw_lines_after}
use Rattle.literal_laws.specs.BlockText.{blank_is_no_other}
use Rattle.literal_laws.specs.Lines.{Some}

-- LF or CR
unfoldable pub is_line_end : ℕ → Bool
is_line_end b = eqb b line_feed || eqb b carriage_return

-- how many bytes stand before the first line end
unfoldable pub line_length : List ℕ → ℕ
unfolding is_line_end
line_length [] = 0
line_length (b ∷ s) = let n = suc (line_length s) in if is_line_end b then 0 else n

-- the lines of raw text
abbrev pub lines_of : List ℕ → List (List ℕ)
lines_of s = raw_lines_after false s

-- the lines after a line end that stands at the front; none where nothing stands there
unfoldable pub other_lines : List ℕ → List (List ℕ)
other_lines [] = []
other_lines (b ∷ s) = raw_lines_after (eqb b carriage_return) s

no_line_end : (b : ℕ) → is_line_end b ≡ false → (eqb b line_feed ≡ false) × (eqb b carriage_return ≡ false)
unfolding is_line_end
no_line_end b e =
    (or_left_false (eqb b line_feed) (eqb b carriage_return) e, or_right_false (eqb b line_feed) (eqb b carriage_return) e)

pub line_end_is_no_blank : (b : ℕ) → is_blank b ≡ true → is_line_end b ≡ false
unfolding is_line_end
line_end_is_no_blank b e =
    or_both_false (eqb b line_feed) (eqb b carriage_return)
    (blank_is_no_other b line_feed e (λ z. omega arith) (λ z. omega arith))
    (blank_is_no_other b carriage_return e (λ z. omega arith) (λ z. omega arith))

pub byte_before_lines : (cr : Bool) (b : ℕ) (s : List ℕ) → is_line_end b ≡ false → raw_lines_after cr (b ∷ s) ≡ onto b (lines_of s)
unfolding raw_lines_after
byte_before_lines cr b s e = let n = no_line_end b e in rw (n.0, n.1)

pub line_end_before_lines : (b : ℕ) (s : List ℕ) → is_line_end b ≡ true → lines_of (b ∷ s) ≡ [] ∷ other_lines (b ∷ s)
unfolding raw_lines_after is_line_end other_lines
line_end_before_lines b s e = go (eqb b line_feed) refl e
  where
    go : (x : Bool) → eqb b line_feed ≡ x → x || eqb b carriage_return ≡ true
        → (if x then [] ∷ lines_of s else if eqb b carriage_return then [] ∷ raw_lines_after true s else onto b (lines_of s))
        ≡ [] ∷ raw_lines_after (eqb b carriage_return) s
    go true e h = rw (eqb-true b line_feed e)
    go false e h = rw h

onto_first : (b : ℕ) (l : List ℕ) (ls : List (List ℕ)) → onto b (l ∷ ls) ≡ (b ∷ l) ∷ ls
unfolding onto
onto_first b l ls = refl

pub first_line_and_others : (s : List ℕ) → lines_of s ≡ take (line_length s) s ∷ other_lines (drop (line_length s) s)
unfolding line_length
first_line_and_others [] = unfold raw_lines_after other_lines in refl
first_line_and_others (b ∷ s) = go (is_line_end b) refl (first_line_and_others s)
  where
    go : (x : Bool) → is_line_end b ≡ x → lines_of s ≡ take (line_length s) s ∷ other_lines (drop (line_length s) s)
        → lines_of (b ∷ s)
        ≡ take (if x then 0 else suc (line_length s)) (b ∷ s) ∷ other_lines (drop (if x then 0 else suc (line_length s)) (b ∷ s))
    go true e ih = line_end_before_lines b s e
    go false e ih =
        byte_before_lines false b s e ∙ ap (onto b) ih ∙ onto_first b (take (line_length s) s) (other_lines (drop (line_length s) s))

there_is_a_first : (s : List ℕ) → Some (lines_of s)
there_is_a_first s = rw (first_line_and_others s) tt

pub there_is_a_line : (cr : Bool) (s : List ℕ) → Some (raw_lines_after cr s)
there_is_a_line false s = there_is_a_first s
there_is_a_line true [] = unfold raw_lines_after in tt
there_is_a_line true (b ∷ s) = unfold raw_lines_after in go (eqb b line_feed) (eqb b carriage_return)
  where
    go : (x y : Bool) → Some (if x then lines_of s else if y then [] ∷ raw_lines_after true s else onto b (lines_of s))
    go true y = there_is_a_first s
    go false true = tt
    go false false = rw (first_line_and_others s, onto_first b (take (line_length s) s) (other_lines (drop (line_length s) s))) tt

-- ---- the others

pub others_after : (s : List ℕ) (i : ℕ) → i < length s
    → other_lines (drop i s) ≡ raw_lines_after (eqb (get_or s i 0) carriage_return) (drop (suc i) s)
unfolding other_lines
others_after s i h = rw (drop-cons s i 0 h)

pub no_others : (s : List ℕ) (i : ℕ) → length s ≤ i → other_lines (drop i s) ≡ []
unfolding other_lines
no_others s i h = rw (drop_of_length-le s h)

-- what takes no heed of an empty first line takes none of a CR before the text
pub cr_before : {X : Type 0} (f : List (List ℕ) → X) → ((ls : List (List ℕ)) → f ([] ∷ ls) ≡ f ls) → (cr : Bool) (s : List ℕ)
    → f (raw_lines_after cr s) ≡ f (lines_of s)
cr_before f e false s = refl
cr_before f e true [] = unfold raw_lines_after in refl
cr_before f e true (b ∷ s) = unfold raw_lines_after in go (eqb b line_feed)
  where
    other : List (List ℕ)
    other = if eqb b carriage_return then [] ∷ raw_lines_after true s else onto b (lines_of s)

    go : (x : Bool) → f (if x then lines_of s else other) ≡ f (if x then [] ∷ lines_of s else other)
    go true = sym (e (lines_of s))
    go false = refl

-- ---- the first

pub first_line_within : (s : List ℕ) → line_length s ≤ length s
unfolding line_length
first_line_within [] = omega arith
first_line_within (b ∷ s) = go (is_line_end b) (first_line_within s)
  where
    go : (x : Bool) → line_length s ≤ length s → (if x then 0 else suc (line_length s)) ≤ length (b ∷ s)
    go true h = omega arith
    go false h = omega arith

pub blanks_before_line_end : (s : List ℕ) → line_length s ≡ indent s + line_length (drop (indent s) s)
unfolding line_length indent
blanks_before_line_end [] = omega arith
blanks_before_line_end (b ∷ s) = go (is_blank b) refl (blanks_before_line_end s)
  where
    go : (x : Bool) → is_blank b ≡ x → line_length s ≡ indent s + line_length (drop (indent s) s)
        → (if is_line_end b then 0 else suc (line_length s))
        ≡ (if x then suc (indent s) else 0) + line_length (drop (if x then suc (indent s) else 0) (b ∷ s))
    go true e ih = rw (line_end_is_no_blank b e) (omega arith)
    go false e ih = omega arith

pub line_end_at_front : (s : List ℕ) → 0 < length s → is_line_end (get_or s 0 0) ≡ true → line_length s ≡ 0
unfolding line_length
line_end_at_front [] h e = refl
line_end_at_front (b ∷ s) h e = rw e

pub byte_at_front : (s : List ℕ) → 0 < length s → is_line_end (get_or s 0 0) ≡ false → 0 < line_length s
unfolding line_length
byte_at_front [] h e = absurd (omega arith)
byte_at_front (b ∷ s) h e = rw e (omega arith)

-- its indent, and whether it is blank
pub first_line_indent : (s : List ℕ) → indent (take (line_length s) s) ≡ indent s
unfolding line_length
first_line_indent [] = refl
first_line_indent (b ∷ s) = go (is_line_end b) refl (first_line_indent s)
  where
    no_blank_lem : (x : Bool) → is_blank b ≡ x → is_line_end b ≡ true → x ≡ false
    no_blank_lem true e h = clash h (line_end_is_no_blank b e)
    no_blank_lem false e h = refl

    go : (x : Bool) → is_line_end b ≡ x → indent (take (line_length s) s) ≡ indent s
        → indent (take (if x then 0 else suc (line_length s)) (b ∷ s)) ≡ indent (b ∷ s)
    go true e ih = unfold indent in rw (no_blank_lem (is_blank b) refl e)
    go false e ih = unfold indent in rw ih

pub blank_up_to : (n : ℕ) (s : List ℕ) → n ≤ indent s → blank (take n s) ≡ true
unfolding indent blank
blank_up_to zero s h = refl
blank_up_to (suc n) [] h = refl
blank_up_to (suc n) (b ∷ s) h = go (is_blank b) h (blank_up_to n s)
  where
    go : (x : Bool) → suc n ≤ (if x then suc (indent s) else 0) → (n ≤ indent s → blank (take n s) ≡ true)
        → x && blank (take n s) ≡ true
    go true h ih = ih (omega arith)
    go false h ih = absurd (omega arith)

pub not_blank_past : (n : ℕ) (s : List ℕ) → indent s < n → n ≤ length s → blank (take n s) ≡ false
unfolding indent blank
not_blank_past zero s h k = absurd (omega arith)
not_blank_past (suc n) [] h k = absurd (omega arith)
not_blank_past (suc n) (b ∷ s) h k = go (is_blank b) h (not_blank_past n s)
  where
    go : (x : Bool) → (if x then suc (indent s) else 0) < suc n → (indent s < n → n ≤ length s → blank (take n s) ≡ false)
        → x && blank (take n s) ≡ false
    go true h ih = ih (omega arith) (omega arith)
    go false h ih = refl
