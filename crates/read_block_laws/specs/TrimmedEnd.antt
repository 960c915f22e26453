-- The lines without the blank ones at the end are the lines of the text up to where the line of its last byte ends that is neither
-- a blank nor a line end.
use Rattle.std.specs.Prelude.{◌≡◌, Bool, ◌&&◌, ◌||◌, ℕ, zero, suc, ◌+◌, ◌-◌, ◌≤◌, ◌<◌, eqb, length, take, drop, get_or, if◌then◌else◌}
use Rattle.std.proofs.Math.Path.{refl, sym, ap}
use Rattle.std.proofs.Common.{◌∙◌, arith, length-take, length-drop, drop_of_length-le, drop-cons}
use Rattle.std.proofs.Math.Bool.{true, false}
use mathlib.Core.List.{List, [], ◌∷◌}
use Rattle.base.specs.Bools.{clash, and_right, and_false, or_left_false, or_right_false}
use Rattle.meaning.specs.Ascii.{line_feed, carriage_return}
use Rattle.meaning.specs.Settings.{is_blank, blank}
use Rattle.meaning.specs.Block.{onto, raw_lines_after, unless_blank, drop_blank_end}
use Rattle.literal_laws.specs.Lines.{Some}
use Rattle.read_block_laws.specs.FirstLine.{is_line_end, line_length, lines_of, other_lines, byte_before_lines, first_line_and_others, there_is_a_line, first_line_within}
use Rattle.read_block_laws.specs.TrimmedFront.{shown}

-- a blank or a line end
unfoldable pub is_white : ℕ → Bool
unfolding is_line_end is_blank
is_white b = is_line_end b || is_blank b

unfoldable pub white : List ℕ → Bool
unfolding is_white
white [] = true
white (b ∷ s) = is_white b && white s

-- ---- lines of which none is kept

blank_not_kept : (l : List ℕ) → blank l ≡ true → unless_blank l [] ≡ []
unfolding unless_blank
blank_not_kept l h = rw h

text_kept : (l : List ℕ) (ms : List (List ℕ)) → blank l ≡ false → unless_blank l ms ≡ l ∷ ms
unfolding unless_blank
text_kept l [] h = rw h
text_kept l (m ∷ ms) h = refl

before_lines_kept : (l : List ℕ) (ms : List (List ℕ)) → Some ms → unless_blank l ms ≡ l ∷ ms
unfolding unless_blank
before_lines_kept l [] o = absurd o
before_lines_kept l (m ∷ ms) o = refl

empty_line_not_kept : (ls : List (List ℕ)) → drop_blank_end ls ≡ [] → drop_blank_end ([] ∷ ls) ≡ []
unfolding drop_blank_end
empty_line_not_kept ls h = rw h (blank_not_kept [] (unfold blank in refl))

-- what is not kept is blank
not_kept_is_blank : (l : List ℕ) (ms : List (List ℕ)) → unless_blank l ms ≡ [] → (blank l ≡ true) × (ms ≡ [])
unfolding unless_blank
not_kept_is_blank l [] h = (go (blank l) h, refl)
  where
    go : (x : Bool) → (if x then [] else l ∷ []) ≡ [] → x ≡ true
    go true h = refl
    go false h = let z : ◌≡◌ {A = ℕ} 0 1 = cc in absurd (omega arith)
not_kept_is_blank l (m ∷ ms) h = let z : ◌≡◌ {A = ℕ} 0 1 = cc in absurd (omega arith)

blank_onto_not_kept : (b : ℕ) (ls : List (List ℕ)) → is_blank b ≡ true → drop_blank_end ls ≡ [] → drop_blank_end (onto b ls) ≡ []
unfolding onto drop_blank_end
blank_onto_not_kept b [] e h = blank_not_kept (b ∷ []) (unfold blank in rw e)
blank_onto_not_kept b (l ∷ ls) e h =
    let k = not_kept_is_blank l (drop_blank_end ls) h in
    rw k.1 (blank_not_kept (b ∷ l) (unfold blank in rw e k.0))

white_lines_not_kept : (cr : Bool) (s : List ℕ) → white s ≡ true → drop_blank_end (raw_lines_after cr s) ≡ []
unfolding white raw_lines_after
white_lines_not_kept cr [] h = unfold drop_blank_end in blank_not_kept [] (unfold blank in refl)
white_lines_not_kept cr (b ∷ s) h =
    go cr (eqb b line_feed) (eqb b carriage_return) (is_blank b) refl h (white_lines_not_kept false s) (white_lines_not_kept true s)
  where
    go : (cr x y z : Bool) → is_blank b ≡ z → ((x || y) || z) && white s ≡ true
        → (white s ≡ true → drop_blank_end (lines_of s) ≡ []) → (white s ≡ true → drop_blank_end (raw_lines_after true s) ≡ [])
        → drop_blank_end
        (if x then (if cr then lines_of s else [] ∷ lines_of s) else if y then [] ∷ raw_lines_after true s else onto b (lines_of s))
        ≡ []
    go true true y z e h i j = i h
    go false true y z e h i j = empty_line_not_kept (lines_of s) (i h)
    go cr false true z e h i j = empty_line_not_kept (raw_lines_after true s) (j h)
    go cr false false true e h i j = blank_onto_not_kept b (lines_of s) e (i h)
    go cr false false false e h i j = clash h refl

-- ---- lines of which one is kept

line_alone : (s : List ℕ) → lines_of (take (line_length s) s) ≡ take (line_length s) s ∷ []
unfolding line_length
line_alone [] = unfold raw_lines_after in refl
line_alone (b ∷ s) = go (is_line_end b) refl (line_alone s)
  where
    go : (x : Bool) → is_line_end b ≡ x → lines_of (take (line_length s) s) ≡ take (line_length s) s ∷ []
        → lines_of (take (if x then 0 else suc (line_length s)) (b ∷ s)) ≡ take (if x then 0 else suc (line_length s)) (b ∷ s) ∷ []
    go true e ih = unfold raw_lines_after in refl
    go false e ih = byte_before_lines false b (take (line_length s) s) e ∙ rw ih (unfold onto in refl)

white_others_not_kept : (n : ℕ) (s : List ℕ) → white s ≡ true → drop_blank_end (other_lines (drop n s)) ≡ []
unfolding white other_lines
white_others_not_kept zero [] h = unfold drop_blank_end in refl
white_others_not_kept zero (b ∷ s) h = white_lines_not_kept (eqb b carriage_return) s (and_right (is_white b) (white s) h)
white_others_not_kept (suc n) [] h = unfold drop_blank_end in refl
white_others_not_kept (suc n) (b ∷ s) h = white_others_not_kept n s (and_right (is_white b) (white s) h)

text_onto_kept : (b : ℕ) (l : List ℕ) (ls : List (List ℕ)) → is_blank b ≡ false → drop_blank_end ls ≡ []
    → drop_blank_end (onto b (l ∷ ls)) ≡ onto b (l ∷ [])
unfolding onto drop_blank_end
text_onto_kept b l ls e h = rw h (text_kept (b ∷ l) [] (unfold blank in rw e))

byte_onto_kept : (b : ℕ) (ls : List (List ℕ)) → Some (drop_blank_end ls) → drop_blank_end (onto b ls) ≡ onto b (drop_blank_end ls)
unfolding drop_blank_end
byte_onto_kept b [] o = absurd o
byte_onto_kept b (l ∷ ls) o = unfold onto in go (drop_blank_end ls) (blank l) refl o
  where
    go : (ms : List (List ℕ)) (x : Bool) → blank l ≡ x → Some (unless_blank l ms)
        → unless_blank (b ∷ l) ms ≡ onto b (unless_blank l ms)
    go [] true e o = let z : Some [] = rw (blank_not_kept l e) at o in absurd z
    go [] false e o =
        rw (text_kept l [] e, text_kept (b ∷ l) [] (unfold blank in rw (e, and_false (is_blank b)))) (unfold onto in refl)
    go (m ∷ ms) x e o = unfold unless_blank onto in refl

-- one byte more in front of lines of which t are kept
byte_before_kept : (cr : Bool) (b : ℕ) (s t : List ℕ) → drop_blank_end (lines_of s) ≡ lines_of t
    → drop_blank_end (raw_lines_after true s) ≡ raw_lines_after true t
    → drop_blank_end (raw_lines_after cr (b ∷ s)) ≡ raw_lines_after cr (b ∷ t)
unfolding raw_lines_after
byte_before_kept cr b s t i k = go cr (eqb b line_feed) (eqb b carriage_return)
  where
    empty_line : (c : Bool) → drop_blank_end (raw_lines_after c s) ≡ raw_lines_after c t
        → drop_blank_end ([] ∷ raw_lines_after c s) ≡ [] ∷ raw_lines_after c t
    empty_line c e = unfold drop_blank_end in rw e (before_lines_kept [] (raw_lines_after c t) (there_is_a_line c t))

    go : (cr x y : Bool)
        → drop_blank_end
        (if x then (if cr then lines_of s else [] ∷ lines_of s) else if y then [] ∷ raw_lines_after true s else onto b (lines_of s))
        ≡ (if x then (if cr then lines_of t else [] ∷ lines_of t) else if y then [] ∷ raw_lines_after true t else onto b (lines_of t))
    go true true y = i
    go false true y = empty_line false i
    go cr false true = empty_line true k
    go cr false false = byte_onto_kept b (lines_of s) (rw i (there_is_a_line false t)) ∙ ap (onto b) i

-- the byte at j is the last that is not white
lines_up_to_text : (cr : Bool) (j : ℕ) (s : List ℕ) → j < length s → is_white (get_or s j 0) ≡ false → white (drop (suc j) s) ≡ true
    → drop_blank_end (raw_lines_after cr s) ≡ raw_lines_after cr (take (suc j + line_length (drop (suc j) s)) s)
lines_up_to_text cr j [] h e w = absurd (omega arith)
lines_up_to_text cr zero (b ∷ s) h e w =
    let n : suc 0 + line_length s ≡ suc (line_length s) = omega arith in
    let l : List ℕ = take (line_length s) s in
    let no_end : is_line_end b ≡ false = unfold is_white in or_left_false (is_line_end b) (is_blank b) e in
    let no_blank : is_blank b ≡ false = unfold is_white in or_right_false (is_line_end b) (is_blank b) e in
    ap drop_blank_end (byte_before_lines cr b s no_end ∙ ap (onto b) (first_line_and_others s))
    ∙ text_onto_kept b l (other_lines (drop (line_length s) s)) no_blank (white_others_not_kept (line_length s) s w)
    ∙ sym (rw n (byte_before_lines cr b l no_end ∙ ap (onto b) (line_alone s)))
lines_up_to_text cr (suc j) (b ∷ s) h e w =
    let n : suc (suc j) + line_length (drop (suc j) s) ≡ suc (suc j + line_length (drop (suc j) s)) = omega arith in
    rw n
    (byte_before_kept cr b s (take (suc j + line_length (drop (suc j) s)) s) (lines_up_to_text false j s (omega arith) e w)
    (lines_up_to_text true j s (omega arith) e w))

-- ---- by places

-- only blanks and line ends stand from j on
pub record WhiteFrom (s : List ℕ) (j : ℕ) : Type 0 where
  pub within : j ≤ length s
  pub rest : white (drop j s) ≡ true

-- the last line that is not blank ends at e, which is the start where there is none
pub record EndsAt (s : List ℕ) (e : ℕ) : Type 0 where
  pub within : e ≤ length s
  pub kept : drop_blank_end (lines_of s) ≡ shown (take e s)

pub white_from_end : (s : List ℕ) (n : ℕ) → n ≡ length s → WhiteFrom s n
white_from_end s n h =
    let k : length s ≤ n = omega arith in
    record { within = omega arith; rest = rw (drop_of_length-le s k) (unfold white in refl) }

module _ (s : List ℕ) (j : ℕ) (k : WhiteFrom s j) (h : 0 < j) where
  pub white_from_before : is_white (get_or s (j - 1) 0) ≡ true → WhiteFrom s (j - 1)
  white_from_before e =
      let n : suc (j - 1) ≡ j = omega arith in
      let l : j - 1 < length s = omega (arith, k.within) in
      let d : drop (j - 1) s ≡ get_or s (j - 1) 0 ∷ drop j s = drop-cons s (j - 1) 0 l ∙ rw n in
      record { within = omega arith; rest = rw d (unfold white in rw e k.rest) }

  pub text_line_ends : is_white (get_or s (j - 1) 0) ≡ false → (e : ℕ) → e ≡ j + line_length (drop j s) → EndsAt s e
  text_line_ends f e a =
      let n : suc (j - 1) ≡ j = omega arith in
      let l : j - 1 < length s = omega (arith, k.within) in
      let w : white (drop (suc (j - 1)) s) ≡ true = rw n k.rest in
      let p : suc (j - 1) + line_length (drop (suc (j - 1)) s) ≡ e = rw n (sym a) in
      record {
        within = omega (arith, a, k.within, first_line_within (drop j s), length-drop j s);
        kept = rw p at (lines_up_to_text false (j - 1) s l f w) ∙ go (take e s) (omega (arith, length-take e s));
      }
    where
      go : (t : List ℕ) → 0 < length t → lines_of t ≡ shown t
      go [] h = absurd (omega arith)
      go (b ∷ t) h = unfold shown in refl

pub nothing_ends : (s : List ℕ) (j : ℕ) → WhiteFrom s j → j ≤ 0 → EndsAt s j
nothing_ends s j k h =
    let z : j ≡ 0 = omega arith in
    let w : white s ≡ true = rw z at k.rest in
    record { within = omega arith; kept = rw z (white_lines_not_kept false s w ∙ (unfold shown in refl)) }
