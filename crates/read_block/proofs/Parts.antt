-- The parts of a source as they are lent on: from a start to the end, and from there up to an end.
use Rattle.std.proofs.Math.Path.{◌≡◌, ◌∙◌}
use Rattle.std.specs.Prelude.{refl, true, false, List, length, take, drop}
use Rattle.std.proofs.lemmas.List.{take_rest}
use Rattle.std.proofs.Common.{sym, ap, arith, ℕ, min, ◌-◌, ◌≤◌, ◌<◌}
use Rattle.std.proofs.Math.Option.{none, some}
use Rattle.std.proofs.Math.ListN.{drop_of_length-le}
use Rattle.meaning.specs.Block.{indent, common_indent, block_string_value}
use Rattle.meaning.specs.Reading.{block_front, characters, as_block, value, block_form}
use Rattle.meaning.specs.Answers.{answer}
use Rattle.meaning.specs.Entries.{read_of}
use Rattle.read_block_laws.specs.Unescaped.{unescaped}
use Rattle.read_block_laws.specs.Closing.{closed, closed_reads, not_closed_does_not_read}
use Rattle.read_block_laws.specs.FirstLine.{line_length, lines_of}
use Rattle.read_block_laws.specs.Outdented.{number_of}
use Rattle.read_block_laws.specs.TrimmedFront.{StartsAt}
use Rattle.read_block_laws.specs.TrimmedEnd.{EndsAt}
use Rattle.read_block_laws.specs.Text.{text_of}
use Rattle.read_block_laws.specs.Value.{between, value_past_blank_lines, value_from_first_line}
use Rattle.read_block.proofs.Answered.{Outcome}

-- a part that goes on to the end
abbrev pub from : List ℕ → ℕ → List ℕ
from s i = take (length s - i) (drop i s)

pub from_is : (s : List ℕ) (i : ℕ) → from s i ≡ drop i s
from_is s i = take_rest s i

module _ (s : List ℕ) (start end n : ℕ) (a : StartsAt s start) (b : EndsAt (from s start) end) where
  ends : EndsAt (drop start s) end
  ends = rw (from_is s start) at b

  same : take end (from s start) ≡ between s start end
  same = rw (from_is s start)

  pub first_line_kept : start ≡ 0 → (first : ℕ) → first ≡ line_length (take end (from s start))
      → n ≡ number_of (common_indent (lines_of (from (take end (from s start)) first)))
      → text_of n (take end (from s start)) ≡ block_string_value (unescaped s)
  first_line_kept h first f e =
      let g : first ≡ line_length (between s start end) = rw same at f in
      let o : n ≡ number_of (common_indent (lines_of (drop (line_length (between s start end)) (between s start end)))) =
      rw (from_is (take end (from s start)) first, same, g) at e in
      rw same (sym (value_from_first_line s start end n a ends h o))

  pub first_line_left_out : 0 < start → n ≡ number_of (common_indent (lines_of (take end (from s start))))
      → (t : List ℕ) → t ≡ drop (min n (indent (take end (from s start)))) (take end (from s start))
      → text_of n t ≡ block_string_value (unescaped s)
  first_line_left_out h e t f =
      let g : t ≡ drop (min n (indent (between s start end))) (between s start end) = rw same at f in
      let o : n ≡ number_of (common_indent (lines_of (between s start end))) = rw same at e in
      rw g (sym (value_past_blank_lines s start end n a ends h o))

-- ---- the whole text

-- the source s, once the text is closed
pub not_closed_is_refused : (text s d : List ℕ) → s ≡ drop 3 text → closed s ≡ false
    → (answer 9 0 0, none, d) ≡ read_of (as_block (characters block_front 0 (drop 3 text))) d
not_closed_is_refused text s d a h =
    let e : characters block_front 0 (drop 3 text) ≡ none = rw a at (not_closed_does_not_read s h) in
    rw e (unfold as_block in refl)

pub short_is_refused : (text d : List ℕ) → length text < 3
    → (answer 9 0 0, none, d) ≡ read_of (as_block (characters block_front 0 (drop 3 text))) d
short_is_refused text d h =
    let k : length text ≤ 3 = omega arith in
    rw (drop_of_length-le text k) (unfold as_block characters in refl)

pub closed_is_read : (text s d : List ℕ) {x : Outcome} → s ≡ drop 3 text → closed s ≡ true
    → x ≡ read_of (value block_form (block_string_value (unescaped (take (length s - 3) s)))) d
    → x ≡ read_of (as_block (characters block_front 0 (drop 3 text))) d
closed_is_read text s d a h r =
    let e : characters block_front 0 (drop 3 text) ≡ some (unescaped (take (length s - 3) s)) =
    ap (characters block_front 0) (sym a) ∙ (closed_reads s h).1 in
    rw e (unfold as_block in r)
