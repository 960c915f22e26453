-- The block value of the raw text of a value that keeps the block rule is the value: the common indent is the indentation, no more,
-- since the value's own is 0; and of the lines only those that the form adds at the front and at the end are blank.
use Rattle.std.specs.Prelude.{◌≡◌, Bool, ℕ, min, ◌+◌, length, if◌then◌else◌}
use Rattle.std.proofs.Math.Path.{refl}
use Rattle.std.proofs.Common.{ap, ◌∙◌, arith, eqb-true}
use Rattle.std.proofs.Math.Bool.{true, false}
use Rattle.std.proofs.Math.Option.{Option, none, some}
use mathlib.Core.List.{List, [], ◌∷◌, ◌++◌, map, append_assoc}
use Rattle.std.proofs.Math.Seq.{drop-nil, drop-append_seam, drop-length}
use Rattle.base.specs.Bools.{clash, and_left, and_right}
use Rattle.meaning.specs.Ascii.{line_feed, carriage_return}
use Rattle.meaning.specs.Settings.{is_blank, blank}
use Rattle.meaning.specs.Block.{lines, first_line, last_line, indent, lesser, common_indent, has, is_zero, can_be_block_string, raw_lines, removed, dedented, drop_blank_front, unless_blank, drop_blank_end, joined, block_string_value}
use Rattle.literal_laws.specs.Lines.{lines_joined, one_line, raw_lines_without_cr}
use Rattle.literal_laws.specs.Rule.{Rule, rule_of_lem, front_kept, end_kept, value_by_lines}
use Rattle.literal_laws.specs.Clean.{clean, all_clean, clean_front, clean_from_front, raw_lines_clean}
use Rattle.literal_laws.specs.BlockText.{blank_is_no_other, indented, raw_of}

-- ---- the raw text falls into its lines again

raw_lines_of_more : (l s : List ℕ) → clean l ≡ true → raw_lines (l ++ (line_feed ∷ s)) ≡ l ∷ raw_lines s
unfolding raw_lines
raw_lines_of_more [] s h = refl
raw_lines_of_more (b ∷ l) s h = let f = clean_front b l h in rw (f.no_lf, f.no_cr, raw_lines_of_more l s f.rest)

raw_lines_of_one : (l : List ℕ) → clean l ≡ true → raw_lines l ≡ l ∷ []
unfolding raw_lines
raw_lines_of_one [] h = refl
raw_lines_of_one (b ∷ l) h = let f = clean_front b l h in rw (f.no_lf, f.no_cr, raw_lines_of_one l f.rest)

clean_appended : (l m : List ℕ) → clean l ≡ true → clean m ≡ true → clean (l ++ m) ≡ true
clean_appended [] m h k = k
clean_appended (b ∷ l) m h k =
    let f = clean_front b l h in clean_from_front b (l ++ m) f.no_lf f.no_cr (clean_appended l m f.rest k)

blank_is_clean : (ind : List ℕ) → blank ind ≡ true → clean ind ≡ true
unfolding blank
blank_is_clean [] h = unfold clean in refl
blank_is_clean (b ∷ ind) h =
    let e = and_left (is_blank b) (blank ind) h in
    clean_from_front b ind
    (blank_is_no_other b line_feed e (λ z. omega arith) (λ z. omega arith))
    (blank_is_no_other b carriage_return e (λ z. omega arith) (λ z. omega arith))
    (blank_is_clean ind (and_right (is_blank b) (blank ind) h))

blank_appended : (l m : List ℕ) → blank l ≡ true → blank (l ++ m) ≡ blank m
unfolding blank
blank_appended [] m h = refl
blank_appended (b ∷ l) m h = rw (and_left (is_blank b) (blank l) h) (blank_appended l m (and_right (is_blank b) (blank l) h))

indent_appended : (l m : List ℕ) → blank l ≡ true → indent (l ++ m) ≡ length l + indent m
unfolding blank indent
indent_appended [] m h = omega arith
indent_appended (b ∷ l) m h =
    rw (and_left (is_blank b) (blank l) h) (omega (arith, indent_appended l m (and_right (is_blank b) (blank l) h)))

-- this indent, if there is one, and n more
abbrev more : ℕ → Option ℕ → Option ℕ
more n none = none
more n (some m) = some (n + m)

lesser_more : (n a : ℕ) (k : Option ℕ) → lesser (n + a) (more n k) ≡ more n (lesser a k)
unfolding lesser
lesser_more n a none = refl
lesser_more n a (some m) = ap some (omega arith)

module _ (ind : List ℕ) (bl : blank ind ≡ true) where
  indented_clean : (l : List ℕ) → clean l ≡ true → clean (indented ind l) ≡ true
  unfolding indented
  indented_clean [] h = h
  indented_clean (b ∷ l) h = clean_appended ind (b ∷ l) (blank_is_clean ind bl) h

  -- after the line w
  raw_text_split : (w : List ℕ) (ls : List (List ℕ)) → clean w ≡ true → all_clean ls ≡ true
      → raw_lines (w ++ (raw_of ind ls ++ (line_feed ∷ ind))) ≡ w ∷ (map (indented ind) ls ++ (ind ∷ []))
  unfolding raw_of all_clean
  raw_text_split w [] h k = raw_lines_of_more w ind h ∙ rw (raw_lines_of_one ind (blank_is_clean ind bl))
  raw_text_split w (l ∷ ls) h k =
      let c = indented_clean l (and_left (clean l) (all_clean ls) k) in
      rw (
        append_assoc (indented ind l) (raw_of ind ls) (line_feed ∷ ind),
        raw_lines_of_more w (indented ind l ++ (raw_of ind ls ++ (line_feed ∷ ind))) h,
        raw_text_split (indented ind l) ls c (and_right (clean l) (all_clean ls) k),
      )

  indent_of_indented : (ls : List (List ℕ)) → common_indent (map (indented ind) ls ++ (ind ∷ [])) ≡ more (length ind) (common_indent ls)
  unfolding common_indent indented
  indent_of_indented [] = rw bl
  indent_of_indented ([] ∷ ls) = indent_of_indented ls
  indent_of_indented ((b ∷ l) ∷ ls) =
      rw (blank_appended ind (b ∷ l) bl, indent_appended ind (b ∷ l) bl, indent_of_indented ls) (go (blank (b ∷ l)))
    where
      go : (x : Bool)
          → (if x
          then more (length ind) (common_indent ls)
          else lesser (length ind + indent (b ∷ l)) (more (length ind) (common_indent ls)))
          ≡ more (length ind) (if x then common_indent ls else lesser (indent (b ∷ l)) (common_indent ls))
      go true = refl
      go false = lesser_more (length ind) (indent (b ∷ l)) (common_indent ls)

  indentation_removed : (ls : List (List ℕ))
      → map (removed (some (length ind))) (map (indented ind) ls ++ (ind ∷ [])) ≡ ls ++ ([] ∷ [])
  unfolding removed indented
  indentation_removed [] = rw (drop-length ind)
  indentation_removed ([] ∷ ls) = rw (drop-nil {A = ℕ} (length ind), indentation_removed ls)
  indentation_removed ((b ∷ l) ∷ ls) = rw (drop-append_seam ind (b ∷ l), indentation_removed ls)

-- ---- several lines

empty_end_dropped : (ls : List (List ℕ)) → drop_blank_end (ls ++ ([] ∷ [])) ≡ drop_blank_end ls
unfolding drop_blank_end unless_blank blank
empty_end_dropped [] = refl
empty_end_dropped (l ∷ ls) = rw (empty_end_dropped ls)

first_of_appended : (ls ms : List (List ℕ)) → blank (first_line ls) ≡ false → blank (first_line (ls ++ ms)) ≡ false
unfolding first_line blank
first_of_appended [] ms h = clash refl h
first_of_appended (l ∷ ls) ms h = h

least_is_zero : (ls : List (List ℕ)) → blank (first_line ls) ≡ false → is_zero (common_indent ls) ≡ true → common_indent ls ≡ some 0
unfolding common_indent first_line
least_is_zero [] h z = clash refl h
least_is_zero (l ∷ ls) h z = rw h (go (common_indent ls) (rw h at z))
  where
    go : (o : Option ℕ) → is_zero (lesser (indent l) o) ≡ true → lesser (indent l) o ≡ some 0
    go none z = ap some (eqb-true (indent l) 0 z)
    go (some m) z = ap some (eqb-true (min (indent l) m) 0 z)

empty_front_dropped : (ls : List (List ℕ)) → drop_blank_front ([] ∷ ls) ≡ drop_blank_front ls
unfolding drop_blank_front blank
empty_front_dropped ls = refl

several_lines_trimmed : (ind v : List ℕ) → blank ind ≡ true → Rule v
    → joined (drop_blank_end (drop_blank_front (dedented ([] ∷ (map (indented ind) (lines v) ++ (ind ∷ [])))))) ≡ v
unfolding dedented
several_lines_trimmed ind v bl r =
    let z : more (length ind) (some 0) ≡ some (length ind) = ap some (omega arith) in
    rw (
      indent_of_indented ind bl (lines v),
      least_is_zero (lines v) r.first r.least,
      z,
      indentation_removed ind bl (lines v),
      empty_front_dropped (lines v ++ ([] ∷ [])),
      front_kept (lines v ++ ([] ∷ [])) (first_of_appended (lines v) ([] ∷ []) r.first),
      empty_end_dropped (lines v),
      end_kept (lines v) r.last,
    ) (lines_joined v)

pub several_lines_value : (ind v : List ℕ) → blank ind ≡ true → can_be_block_string v ≡ true
    → block_string_value (raw_of ind (lines v) ++ (line_feed ∷ ind)) ≡ v
several_lines_value ind v bl h =
    let r = rule_of_lem v h in
    let c : all_clean (lines v) ≡ true = rw (raw_lines_without_cr v r.no_cr) at (raw_lines_clean v) in
    value_by_lines (raw_of ind (lines v) ++ (line_feed ∷ ind)) ([] ∷ (map (indented ind) (lines v) ++ (ind ∷ [])))
    (raw_text_split ind bl [] (lines v) (unfold clean in refl) c)
    ∙ several_lines_trimmed ind v bl r

-- ---- one line

one_line_trimmed : (v : List ℕ) → blank (first_line (v ∷ [])) ≡ false → blank (last_line (v ∷ [])) ≡ false
    → joined (drop_blank_end (drop_blank_front (dedented (v ∷ [])))) ≡ v
unfolding dedented
one_line_trimmed v f l = rw (front_kept (v ∷ []) f, end_kept (v ∷ []) l) (unfold joined in refl)

pub one_line_value : (v : List ℕ) → can_be_block_string v ≡ true → has line_feed v ≡ false → block_string_value v ≡ v
one_line_value v h n =
    let r = rule_of_lem v h in
    let e = one_line v n in
    let f : blank (first_line (v ∷ [])) ≡ false = rw e at r.first in
    let l : blank (last_line (v ∷ [])) ≡ false = rw e at r.last in
    value_by_lines v (v ∷ []) (raw_lines_without_cr v r.no_cr ∙ e) ∙ one_line_trimmed v f l
