-- The lines without the blank ones at the front are the lines of the text from the first line on that is not blank. A walk finds
-- its start: where only blanks stand before a line end, the next line starts behind that.
use Rattle.std.specs.Prelude.{◌≡◌, refl, true, false, List, [], ◌∷◌, ℕ, suc, ◌+◌, ◌≤◌, ◌<◌, eqb, length, take, drop, get_or}
use Rattle.std.proofs.Common.{sym, ap, ◌∙◌, arith, length-drop, drop_of_length-le, drop-drop, get_or-drop}
use Rattle.std.proofs.Math.Decide.{dec_le}
use Rattle.meaning.specs.Ascii.{carriage_return}
use Rattle.meaning.specs.Settings.{blank}
use Rattle.meaning.specs.Block.{first_line, indent, drop_blank_front}
use Rattle.literal_laws.specs.Rule.{front_kept}
use Rattle.read_block_laws.specs.FirstLine.{is_line_end, line_length, lines_of, other_lines, first_line_and_others, others_after, no_others, cr_before, first_line_within, blanks_before_line_end, line_end_at_front, byte_at_front, blank_up_to, not_blank_past}

-- the lines of a text; none where it is empty
unfoldable pub shown : List ℕ → List (List ℕ)
shown [] = []
shown (b ∷ s) = lines_of (b ∷ s)

-- ---- by the first line

blank_line_dropped : (l : List ℕ) (ls : List (List ℕ)) → blank l ≡ true → drop_blank_front (l ∷ ls) ≡ drop_blank_front ls
unfolding drop_blank_front
blank_line_dropped l ls h = rw h

empty_line_dropped : (ls : List (List ℕ)) → drop_blank_front ([] ∷ ls) ≡ drop_blank_front ls
empty_line_dropped ls = blank_line_dropped [] ls (unfold blank in refl)

first_is : (s : List ℕ) → first_line (lines_of s) ≡ take (line_length s) s
first_is s = ap first_line (first_line_and_others s) ∙ (unfold first_line in refl)

module _ (t : List ℕ) (h : indent t < length t) where
  length_of_line : is_line_end (get_or t (indent t) 0) ≡ true → line_length t ≡ indent t
  length_of_line e =
      let z : indent t + 0 ≡ indent t = omega arith in
      let f : is_line_end (get_or (drop (indent t) t) 0 0) ≡ true = rw (get_or-drop (indent t) t 0 0, z) e in
      omega (arith, blanks_before_line_end t, line_end_at_front (drop (indent t) t) (omega (arith, length-drop (indent t) t)) f)

  longer_than_blanks : is_line_end (get_or t (indent t) 0) ≡ false → indent t < line_length t
  longer_than_blanks e =
      let z : indent t + 0 ≡ indent t = omega arith in
      let f : is_line_end (get_or (drop (indent t) t) 0 0) ≡ false = rw (get_or-drop (indent t) t 0 0, z) e in
      omega (arith, blanks_before_line_end t, byte_at_front (drop (indent t) t) (omega (arith, length-drop (indent t) t)) f)

  line_is_blank : is_line_end (get_or t (indent t) 0) ≡ true → blank (first_line (lines_of t)) ≡ true
  line_is_blank e = rw (first_is t) (blank_up_to (line_length t) t (omega (arith, length_of_line e)))

  line_is_passed : is_line_end (get_or t (indent t) 0) ≡ true
      → drop_blank_front (lines_of t) ≡ drop_blank_front (lines_of (drop (suc (indent t)) t))
  line_is_passed e =
      let b : blank (take (line_length t) t) ≡ true = blank_up_to (line_length t) t (omega (arith, length_of_line e)) in
      ap drop_blank_front (first_line_and_others t)
      ∙ blank_line_dropped (take (line_length t) t) (other_lines (drop (line_length t) t)) b
      ∙ rw (length_of_line e, others_after t (indent t) h)
      (cr_before drop_blank_front empty_line_dropped (eqb (get_or t (indent t) 0) carriage_return) (drop (suc (indent t)) t))

  line_is_text : is_line_end (get_or t (indent t) 0) ≡ false → blank (first_line (lines_of t)) ≡ false
  line_is_text e = rw (first_is t) (not_blank_past (line_length t) t (longer_than_blanks e) (first_line_within t))

module _ (t : List ℕ) (h : length t ≤ indent t) where
  only_blanks_are_a_line : line_length t ≡ length t
  only_blanks_are_a_line = omega (arith, blanks_before_line_end t, first_line_within t)

  only_blanks_are_blank : blank (first_line (lines_of t)) ≡ true
  only_blanks_are_blank = rw (first_is t) (blank_up_to (line_length t) t (omega (arith, only_blanks_are_a_line)))

  only_blanks_are_dropped : drop_blank_front (lines_of t) ≡ []
  only_blanks_are_dropped =
      let b : blank (take (line_length t) t) ≡ true = blank_up_to (line_length t) t (omega (arith, only_blanks_are_a_line)) in
      let n : other_lines (drop (line_length t) t) ≡ [] = no_others t (line_length t) (omega (arith, only_blanks_are_a_line)) in
      ap drop_blank_front (first_line_and_others t)
      ∙ blank_line_dropped (take (line_length t) t) (other_lines (drop (line_length t) t)) b
      ∙ rw n (unfold drop_blank_front in refl)

-- ---- by places

-- before the place i there are only blank lines
pub record BlankBefore (s : List ℕ) (i : ℕ) : Type 0 where
  pub within : i ≤ length s
  pub same : drop_blank_front (lines_of (drop i s)) ≡ drop_blank_front (lines_of s)
  pub passed : 0 < i → blank (first_line (lines_of s)) ≡ true

-- the first line that is not blank starts at i, which is the end where there is none
pub record StartsAt (s : List ℕ) (i : ℕ) : Type 0 where
  pub within : i ≤ length s
  pub kept : drop_blank_front (lines_of s) ≡ shown (drop i s)
  pub passed : 0 < i → blank (first_line (lines_of s)) ≡ true

pub blank_before_start : (s : List ℕ) → BlankBefore s 0
blank_before_start s = record { within = omega arith; same = refl; passed = λ h. absurd (omega arith) }

shown_is : (t : List ℕ) → 0 < length t → shown t ≡ lines_of t
unfolding shown
shown_is [] h = absurd (omega arith)
shown_is (b ∷ t) h = refl

module _ (s : List ℕ) (i e : ℕ) (k : BlankBefore s i) (a : e ≡ i + indent (drop i s)) where
  -- a fact of the first line, at the very start or from there
  first_of_all : blank (first_line (lines_of (drop i s))) ≡ true → blank (first_line (lines_of s)) ≡ true
  first_of_all f = go (dec_le 1 i)
    where
      go : Dec (1 ≤ i) → blank (first_line (lines_of s)) ≡ true
      go (yes h) = k.passed h
      go (no h) = let z : i ≡ 0 = omega arith in rw z at f

  same_byte : get_or (drop i s) (indent (drop i s)) 0 ≡ get_or s e 0
  same_byte = get_or-drop i s (indent (drop i s)) 0 ∙ rw (← a)

  pub blank_line_before : e < length s → is_line_end (get_or s e 0) ≡ true → BlankBefore s (e + 1)
  blank_line_before h f =
      let t : List ℕ = drop i s in
      let l : indent t < length t = omega (arith, length-drop i s) in
      let f' : is_line_end (get_or t (indent t) 0) ≡ true = rw same_byte f in
      let n : i + suc (indent t) ≡ e + 1 = omega arith in
      let d : drop (suc (indent t)) t ≡ drop (e + 1) s = drop-drop (suc (indent t)) i s ∙ rw n in
      record {
        within = omega arith;
        same = sym (line_is_passed t l f' ∙ rw d) ∙ k.same;
        passed = λ z. first_of_all (line_is_blank t l f');
      }

  pub text_line_starts : e < length s → is_line_end (get_or s e 0) ≡ false → StartsAt s i
  text_line_starts h f =
      let t : List ℕ = drop i s in
      let l : indent t < length t = omega (arith, length-drop i s) in
      let f' : is_line_end (get_or t (indent t) 0) ≡ false = rw same_byte f in
      record {
        within = k.within;
        kept = sym k.same ∙ front_kept (lines_of t) (line_is_text t l f') ∙ sym (shown_is t (omega arith));
        passed = k.passed;
      }

  pub no_line_starts : e ≡ length s → StartsAt s e
  no_line_starts h =
      let t : List ℕ = drop i s in
      let l : length t ≤ indent t = omega (arith, length-drop i s) in
      let z : length s ≤ e = omega arith in
      let d : drop e s ≡ [] = drop_of_length-le s z in
      record {
        within = omega arith;
        kept = sym k.same ∙ only_blanks_are_dropped t l ∙ rw d (unfold shown in refl);
        passed = λ z. first_of_all (only_blanks_are_blank t l);
      }

pub nothing_starts : (s : List ℕ) (i : ℕ) → BlankBefore s i → length s ≤ i → StartsAt s i
nothing_starts s i k h =
    let d : drop i s ≡ [] = drop_of_length-le s h in
    let n : indent (drop i s) ≡ 0 = rw d (unfold indent in refl) in
    no_line_starts s i i k (omega arith) (omega (arith, k.within))
