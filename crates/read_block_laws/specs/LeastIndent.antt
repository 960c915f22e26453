-- The common indent, a line at a time: the first line counts unless it is blank, and then the lines behind its line end. CR LF may
-- be taken for two line ends here, since the empty line between them does not count.
use Rattle.std.specs.Prelude.{◌≡◌, refl, Bool, true, List, [], ◌∷◌, ℕ, suc, ◌+◌, ◌-◌, ◌≤◌, ◌<◌, eqb, ltb, length, take, drop, get_or, if◌then◌else◌}
use Rattle.std.proofs.Common.{ap, ◌∙◌, add-one, length-drop, drop_of_length-le, drop-drop}
use Rattle.std.proofs.Math.Bool.{false}
use Rattle.std.proofs.Math.Option.{Option, none, some}
use native.Mathlib.Omega.{arith}
use Rattle.std.proofs.Math.Decide.{dec_le}
use borrow.Author.Tests.{lt-ltb, le-ltb}
use Rattle.meaning.specs.Ascii.{carriage_return}
use Rattle.meaning.specs.Settings.{blank}
use Rattle.meaning.specs.Block.{indent, lesser, common_indent, raw_lines_after}
use Rattle.read_block_laws.specs.FirstLine.{is_line_end, line_length, lines_of, other_lines, first_line_and_others, others_after, no_others, cr_before, first_line_within, blanks_before_line_end, first_line_indent, blank_up_to, not_blank_past}

-- the indent of lines seen and of lines to come
unfoldable pub merged : Option ℕ → Option ℕ → Option ℕ
merged none x = x
merged (some n) x = lesser n x

-- with a line of so many blanks and so many bytes, which counts unless all are blanks
unfoldable pub with_line : ℕ → ℕ → Option ℕ → Option ℕ
with_line n l o = if ltb n l then lesser n o else o

pub blank_line_leaves : (n l : ℕ) (o : Option ℕ) → l ≤ n → o ≡ with_line n l o
unfolding with_line
blank_line_leaves n l o h = rw (le-ltb n l h)

module _ (n l : ℕ) (h : n < l) where
  pub first_line_gives : some n ≡ with_line n l none
  unfolding with_line lesser
  first_line_gives = rw (lt-ltb n l h)

  pub deeper_line_leaves : (m : ℕ) → m < n → some m ≡ with_line n l (some m)
  unfolding with_line lesser
  deeper_line_leaves m k = rw (lt-ltb n l h) (ap some (omega arith))

  pub lesser_line_gives : (m : ℕ) → n ≤ m → some n ≡ with_line n l (some m)
  unfolding with_line lesser
  lesser_line_gives m k = rw (lt-ltb n l h) (ap some (omega arith))

merged_none : (o : Option ℕ) → merged o none ≡ o
unfolding merged lesser
merged_none none = refl
merged_none (some n) = refl

merged_lesser : (n : ℕ) (o x : Option ℕ) → merged o (lesser n x) ≡ merged (lesser n o) x
unfolding merged lesser
merged_lesser n none x = refl
merged_lesser n (some m) none = ap some (omega arith)
merged_lesser n (some m) (some k) = ap some (omega arith)

pub nothing_merged : (x : Option ℕ) → merged none x ≡ x
unfolding merged
nothing_merged x = refl

empty_line_does_not_count : (ls : List (List ℕ)) → common_indent ([] ∷ ls) ≡ common_indent ls
unfolding common_indent blank
empty_line_does_not_count ls = refl

line_merged : (o : Option ℕ) (t : List ℕ)
    → merged o (common_indent (lines_of t))
    ≡ merged (with_line (indent t) (line_length t) o) (common_indent (other_lines (drop (line_length t) t)))
line_merged o t = rw (first_line_and_others t) (go (dec_le (line_length t) (indent t)))
  where
    go : Dec (line_length t ≤ indent t)
        → merged o (common_indent (take (line_length t) t ∷ other_lines (drop (line_length t) t)))
        ≡ merged (with_line (indent t) (line_length t) o) (common_indent (other_lines (drop (line_length t) t)))
    go (yes h) = unfold common_indent with_line in rw (blank_up_to (line_length t) t h, le-ltb (indent t) (line_length t) h)
    go (no h) =
        let k : indent t < line_length t = omega arith in
        unfold common_indent with_line in
        rw (not_blank_past (line_length t) t k (first_line_within t), first_line_indent t, lt-ltb (indent t) (line_length t) k)
        (merged_lesser (indent t) o (common_indent (other_lines (drop (line_length t) t))))

-- ---- the lines after the first

after_the_first : (s : List ℕ) → line_length (drop (line_length s) s) ≡ 0
unfolding line_length
after_the_first [] = refl
after_the_first (b ∷ s) = go (is_line_end b) refl (after_the_first s)
  where
    go : (x : Bool) → is_line_end b ≡ x → line_length (drop (line_length s) s) ≡ 0
        → line_length (drop (if x then 0 else suc (line_length s)) (b ∷ s)) ≡ 0
    go true e ih = unfold line_length in rw e
    go false e ih = ih

pub first_line_left_out : (s : List ℕ)
    → common_indent (lines_of (drop (line_length s) s)) ≡ common_indent (other_lines (drop (line_length s) s))
first_line_left_out s =
    let t : List ℕ = drop (line_length s) s in
    ap common_indent (first_line_and_others t) ∙ rw (after_the_first s) (empty_line_does_not_count (other_lines t))

-- ---- by places

module _ (o : Option ℕ) (s : List ℕ) (i text end : ℕ) (a : text ≡ i + indent (drop i s))
    (b : end ≡ text + line_length (drop text s)) where
  line_there : end - i ≡ line_length (drop i s)
  line_there =
      let t : List ℕ = drop i s in
      let d : drop (indent t) t ≡ drop text s = drop-drop (indent t) i s ∙ rw (← a) in
      let e : line_length t ≡ indent t + line_length (drop text s) = rw (← d) (blanks_before_line_end t) in
      omega arith

  pub line_ends_before : i < length s → (end ≡ length s → ⊥) → end < length s
  line_ends_before h k = omega (arith, line_there, first_line_within (drop i s), length-drop i s)

  line_counted : merged o (common_indent (lines_of (drop i s)))
      ≡ merged (with_line (text - i) (end - i) o) (common_indent (other_lines (drop end s)))
  line_counted =
      let t : List ℕ = drop i s in
      let p : text - i ≡ indent t = omega arith in
      let n : i + line_length t ≡ end = omega (arith, line_there) in
      let d : drop (line_length t) t ≡ drop end s = drop-drop (line_length t) i s ∙ rw n in
      line_merged o t ∙ rw (d, p, line_there)

  pub line_is_counted : end < length s
      → merged o (common_indent (lines_of (drop i s)))
      ≡ merged (with_line (text - i) (end - i) o) (common_indent (lines_of (drop (end + 1) s)))
  line_is_counted h =
      line_counted
      ∙ rw (others_after s end h, add-one end)
      (ap (merged (with_line (text - i) (end - i) o))
      (cr_before common_indent empty_line_does_not_count (eqb (get_or s end 0) carriage_return) (drop (suc end) s)))

  pub last_line_is_counted : length s ≤ end → merged o (common_indent (lines_of (drop i s))) ≡ with_line (text - i) (end - i) o
  last_line_is_counted h =
      line_counted ∙ rw (no_others s end h) (unfold common_indent in merged_none (with_line (text - i) (end - i) o))

pub no_line_counts : (o : Option ℕ) (s : List ℕ) (i : ℕ) → length s ≤ i → merged o (common_indent (lines_of (drop i s))) ≡ o
no_line_counts o s i h = rw (drop_of_length-le s h) (unfold raw_lines_after common_indent blank in merged_none o)
