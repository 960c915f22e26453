-- The value of a block string by places of its source: BlockStringValue of the unescaped source is what is written of the lines
-- from the first to the last that is not blank, less the least indent among them; where the very first line is not blank, it does
-- not count and keeps its blanks.
use Rattle.std.proofs.Math.Path.{◌≡◌, refl, sym, ap}
use Rattle.std.proofs.Common.{◌∙◌, arith}
use Rattle.std.specs.Prelude.{true, ℕ, min, ◌<◌, drop}
use Rattle.std.proofs.Math.Bool.{false}
use mathlib.Core.List.{List, [], ◌∷◌, map}
use Rattle.std.proofs.Math.ListN.{take}
use Rattle.std.proofs.Math.Seq.{take-nil, drop-nil}
use Rattle.meaning.specs.Settings.{blank}
use Rattle.meaning.specs.Block.{first_line, indent, common_indent, raw_lines, raw_lines_after, dedented, drop_blank_front, unless_blank, drop_blank_end, joined, block_string_value}
use Rattle.literal_laws.specs.Rule.{value_by_lines}
use Rattle.literal_laws.specs.Trim.{front_not_blank, front_keeps_indent, end_keeps_indent}
use Rattle.read_block_laws.specs.Unescaped.{unescaped_after, unescaped}
use Rattle.read_block_laws.specs.FirstLine.{line_length, lines_of, other_lines, first_line_and_others, there_is_a_line}
use Rattle.read_block_laws.specs.LinesUnescaped.{lines_unescaped, blank_unescaped, common_indent_unescaped}
use Rattle.read_block_laws.specs.Outdented.{outdented, number_of, removed_is_outdented, outdented_unescaped, line_text, blank_line_text, front_by_line, end_by_line}
use Rattle.read_block_laws.specs.TrimmedFront.{shown, StartsAt}
use Rattle.read_block_laws.specs.TrimmedEnd.{EndsAt}
use Rattle.read_block_laws.specs.LeastIndent.{first_line_left_out}
use Rattle.read_block_laws.specs.Text.{text_lines, text_of, outdented_text}

-- ---- the steps of BlockStringValue, over lines

outdented_each : (n : ℕ) (ls : List (List ℕ)) → map (outdented n) (map unescaped ls) ≡ map (line_text n) ls
outdented_each n [] = refl
outdented_each n (l ∷ ls) = rw (outdented_unescaped n l, outdented_each n ls)

dedented_lines : (l : List ℕ) (ls : List (List ℕ))
    → dedented (map unescaped (l ∷ ls)) ≡ unescaped l ∷ map (line_text (number_of (common_indent ls))) ls
unfolding dedented
dedented_lines l ls =
    let o = common_indent ls in
    let same = common_indent_unescaped ls in
    rw (same, removed_is_outdented o (map unescaped ls) same, outdented_each (number_of o) ls)

front_of_blank : (l : List ℕ) (ls : List (List ℕ)) → blank l ≡ true → drop_blank_front (l ∷ ls) ≡ drop_blank_front ls
unfolding drop_blank_front
front_of_blank l ls h = rw h

front_of_text : (l : List ℕ) (ls : List (List ℕ)) → blank l ≡ false → drop_blank_front (l ∷ ls) ≡ l ∷ ls
unfolding drop_blank_front
front_of_text l ls h = rw h

end_of_text : (l : List ℕ) (ls : List (List ℕ)) → blank l ≡ false → drop_blank_end (l ∷ ls) ≡ l ∷ drop_blank_end ls
unfolding drop_blank_end
end_of_text l ls h = go (drop_blank_end ls)
  where
    go : (ms : List (List ℕ)) → unless_blank l ms ≡ l ∷ ms
    go [] = unfold unless_blank in rw h
    go (m ∷ ms) = unfold unless_blank in refl

trimmed : List (List ℕ) → List (List ℕ)
trimmed ls = drop_blank_end (drop_blank_front ls)

-- a blank first line is left out
trimmed_blank : (n : ℕ) (l : List ℕ) (ls : List (List ℕ)) → blank l ≡ true
    → trimmed (unescaped l ∷ map (line_text n) ls) ≡ map (line_text n) (trimmed (l ∷ ls))
unfolding trimmed
trimmed_blank n l ls h =
    rw (
      front_of_blank (unescaped l) (map (line_text n) ls) (blank_unescaped l ∙ h),
      front_by_line (line_text n) (blank_line_text n) ls,
      end_by_line (line_text n) (blank_line_text n) (drop_blank_front ls),
      front_of_blank l ls h,
    )

-- a first line with text is kept whole
trimmed_text : (n : ℕ) (l : List ℕ) (ls : List (List ℕ)) → blank l ≡ false
    → trimmed (unescaped l ∷ map (line_text n) ls) ≡ unescaped l ∷ map (line_text n) (drop_blank_end ls)
unfolding trimmed
trimmed_text n l ls h =
    let e : blank (unescaped l) ≡ false = blank_unescaped l ∙ h in
    rw (
      front_of_text (unescaped l) (map (line_text n) ls) e,
      end_of_text (unescaped l) (map (line_text n) ls) e,
      end_by_line (line_text n) (blank_line_text n) ls,
    )

value_by_first : (s l : List ℕ) (ls : List (List ℕ)) → lines_of s ≡ l ∷ ls
    → block_string_value (unescaped s) ≡ joined (trimmed (unescaped l ∷ map (line_text (number_of (common_indent ls))) ls))
unfolding trimmed
value_by_first s l ls e =
    let r : raw_lines (unescaped s) ≡ map unescaped (l ∷ ls) = unfold raw_lines in lines_unescaped false 0 s ∙ rw e in
    value_by_lines (unescaped s) (map unescaped (l ∷ ls)) r ∙ rw (dedented_lines l ls)

-- ---- the lines that are kept, by places

abbrev pub between : List ℕ → ℕ → ℕ → List ℕ
between s start end = take end (drop start s)

kept_lines : (s : List ℕ) (start end : ℕ) → StartsAt s start → EndsAt (drop start s) end
    → trimmed (lines_of s) ≡ shown (between s start end)
unfolding trimmed
kept_lines s start end a b = rw a.kept (go (drop start s) refl)
  where
    go : (t : List ℕ) → drop start s ≡ t → drop_blank_end (shown t) ≡ shown (take end t)
    go [] e = unfold shown drop_blank_end in rw (take-nil {A = ℕ} end)
    go (c ∷ t) e = unfold shown in rw e at b.kept

shown_text : (b : ℕ) (m : List ℕ) → shown (b ∷ m) ≡ lines_of (b ∷ m)
unfolding shown
shown_text b m = refl

indent_shown : (m : List ℕ) → common_indent (shown m) ≡ common_indent (lines_of m)
unfolding shown
indent_shown [] = unfold common_indent raw_lines_after blank in refl
indent_shown (b ∷ m) = refl

nothing_in_no_line : (n : ℕ) → line_text n [] ≡ []
nothing_in_no_line n = unfold outdented unescaped_after in rw (drop-nil {A = ℕ} (min n (indent [])))

lines_shown : (n : ℕ) (m : List ℕ) → joined (map (line_text n) (shown m)) ≡ joined (map (line_text n) (lines_of m))
unfolding shown
lines_shown n [] = unfold joined raw_lines_after in sym (nothing_in_no_line n)
lines_shown n (b ∷ m) = refl

text_shown : (n : ℕ) (m : List ℕ) → joined (text_lines n (shown m)) ≡ text_of n m
unfolding shown text_of
text_shown n [] = unfold text_lines joined raw_lines_after unescaped_after in refl
text_shown n (b ∷ m) = refl

indent_trimmed : (ls : List (List ℕ)) → common_indent (trimmed ls) ≡ common_indent ls
unfolding trimmed
indent_trimmed ls = end_keeps_indent (drop_blank_front ls) ∙ front_keeps_indent ls

indent_without_blank : (l : List ℕ) (ls : List (List ℕ)) → blank l ≡ true → common_indent (l ∷ ls) ≡ common_indent ls
unfolding common_indent
indent_without_blank l ls h = rw h

first_of : (l : List ℕ) (ls : List (List ℕ)) → first_line (l ∷ ls) ≡ l
unfolding first_line
first_of l ls = refl

module _ (s : List ℕ) (start end n : ℕ) (a : StartsAt s start) (b : EndsAt (drop start s) end) where
  l : List ℕ
  l = take (line_length s) s

  ls : List (List ℕ)
  ls = other_lines (drop (line_length s) s)

  m : List ℕ
  m = between s start end

  lines_are : lines_of s ≡ l ∷ ls
  unfolding l ls
  lines_are = first_line_and_others s

  kept_are : trimmed (l ∷ ls) ≡ shown m
  unfolding m
  kept_are = rw (← lines_are) (kept_lines s start end a b)

  -- the first line is blank
  blank_first : 0 < start → n ≡ number_of (common_indent (lines_of m))
      → block_string_value (unescaped s) ≡ text_of n (drop (min n (indent m)) m)
  blank_first h e =
      let f : blank l ≡ true = rw (lines_are, first_of l ls) at (a.passed h) in
      let o : common_indent (lines_of m) ≡ common_indent ls =
      sym (indent_shown m) ∙ ap common_indent (sym kept_are) ∙ indent_trimmed (l ∷ ls) ∙ indent_without_blank l ls f in
      let k : number_of (common_indent ls) ≡ n = sym (e ∙ ap number_of o) in
      value_by_first s l ls lines_are
      ∙ rw (k, trimmed_blank n l ls f, kept_are) (lines_shown n m)
      ∙ outdented_text n m

  -- the first line has text
  text_kept : blank l ≡ false → shown m ≡ l ∷ drop_blank_end ls
  unfolding trimmed
  text_kept f = sym kept_are ∙ ap drop_blank_end (front_of_text l ls f) ∙ end_of_text l ls f

  others_kept : blank l ≡ false → other_lines (drop (line_length m) m) ≡ drop_blank_end ls
  others_kept f = go m refl (text_kept f)
    where
      go : (t : List ℕ) → m ≡ t → shown t ≡ l ∷ drop_blank_end ls → other_lines (drop (line_length m) m) ≡ drop_blank_end ls
      go [] e k = unfold shown in let z : ◌≡◌ {A = ℕ} 0 1 = cc in absurd (omega arith)
      go (c ∷ t) e k =
          let q : lines_of m ≡ l ∷ drop_blank_end ls = unfold shown in ap (λ (x : List ℕ). lines_of x) e ∙ k in
          let r : take (line_length m) m ∷ other_lines (drop (line_length m) m) ≡ l ∷ drop_blank_end ls =
          sym (first_line_and_others m) ∙ q in
          cc

  text_first_value : blank l ≡ false → n ≡ number_of (common_indent (lines_of (drop (line_length m) m)))
      → block_string_value (unescaped s) ≡ text_of n m
  text_first_value f e =
      let o : common_indent (lines_of (drop (line_length m) m)) ≡ common_indent ls =
      first_line_left_out m ∙ ap common_indent (others_kept f) ∙ end_keeps_indent ls in
      let k : number_of (common_indent ls) ≡ n = sym (e ∙ ap number_of o) in
      let t : text_lines n (shown m) ≡ unescaped l ∷ map (line_text n) (drop_blank_end ls) =
      ap (text_lines n) (text_kept f) ∙ (unfold text_lines in refl) in
      value_by_first s l ls lines_are ∙ rw (k, trimmed_text n l ls f, ← t) (text_shown n m)

  empty_value : drop start s ≡ [] → start ≡ 0 → block_string_value (unescaped s) ≡ text_of n m
  unfolding m
  empty_value d h =
      let z : s ≡ [] = rw h at d in
      let v : block_string_value (unescaped []) ≡ [] = unfold block_string_value unescaped_after in refl in
      let w : text_of n [] ≡ [] = unfold text_of raw_lines_after unescaped_after joined in refl in
      let k : take end (drop start s) ≡ [] = rw (d, take-nil {A = ℕ} end) in
      ap (λ (x : List ℕ). block_string_value (unescaped x)) z ∙ v ∙ sym (rw k w)

  text_first : start ≡ 0 → n ≡ number_of (common_indent (lines_of (drop (line_length m) m)))
      → block_string_value (unescaped s) ≡ text_of n m
  text_first h e = go (drop start s) refl
    where
      go : (t : List ℕ) → drop start s ≡ t → block_string_value (unescaped s) ≡ text_of n m
      go [] d = empty_value d h
      go (c ∷ t) d =
          let k : s ≡ c ∷ t = rw h at d in
          let q : drop_blank_front (lines_of s) ≡ lines_of s =
          a.kept ∙ rw (d, k) (shown_text c t) in
          let f = front_not_blank (lines_of s) (rw q (there_is_a_line false s)) in
          let g : blank l ≡ false = rw (q, lines_are, first_of l ls) at f in
          text_first_value g e

  pub value_past_blank_lines : 0 < start → n ≡ number_of (common_indent (lines_of (between s start end)))
      → block_string_value (unescaped s) ≡ text_of n (drop (min n (indent (between s start end))) (between s start end))
  unfolding m
  value_past_blank_lines h e = blank_first h e

  pub value_from_first_line : start ≡ 0
      → n ≡ number_of (common_indent (lines_of (drop (line_length (between s start end)) (between s start end))))
      → block_string_value (unescaped s) ≡ text_of n (between s start end)
  unfolding m
  value_from_first_line h e = text_first h e
