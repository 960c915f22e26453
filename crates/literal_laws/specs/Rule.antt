-- The block rule part by part, and what it gives: a value that keeps it is the block value of LF and itself, since every step of
-- BlockStringValue after the first leaves its lines as they are.
use Rattle.std.specs.Prelude.{◌≡◌, refl, true, false, not, ◌&&◌, List, [], ◌∷◌, map, ℕ}
use Rattle.std.proofs.Common.{◌∙◌, eqb-true}
use Rattle.std.proofs.Math.Option.{Option, none, some}
use Rattle.base.specs.Bools.{and_left, and_right, not_true}
use Rattle.meaning.specs.Ascii.{line_feed, carriage_return}
use Rattle.meaning.specs.Settings.{blank}
use Rattle.meaning.specs.Block.{lines, first_line, last_line, common_indent, has, is_zero, can_be_block_string, raw_lines, removed, dedented, drop_blank_front, drop_blank_end, joined, block_string_value}
use Rattle.literal_laws.specs.Lines.{lines_joined, raw_lines_without_cr}

-- "no CR; first and last line not blank (..); least count of leading spaces and tabs over non-blank lines is 0"
pub record Rule (v : List ℕ) : Type 0 where
  pub no_cr : has carriage_return v ≡ false
  pub first : blank (first_line (lines v)) ≡ false
  pub last : blank (last_line (lines v)) ≡ false
  pub least : is_zero (common_indent (lines v)) ≡ true

pub rule_of_lem : (v : List ℕ) → can_be_block_string v ≡ true → Rule v
unfolding can_be_block_string
rule_of_lem v h =
    let a = not (has carriage_return v) in
    let b = not (blank (first_line (lines v))) in
    let c = not (blank (last_line (lines v))) in
    let d = is_zero (common_indent (lines v)) in
    let h1 : b && (c && d) ≡ true = and_right a (b && (c && d)) h in
    let h2 : c && d ≡ true = and_right b (c && d) h1 in
    record {
      no_cr = not_true (has carriage_return v) (and_left a (b && (c && d)) h);
      first = not_true (blank (first_line (lines v))) (and_left b (c && d) h1);
      last = not_true (blank (last_line (lines v))) (and_left c d h2);
      least = and_right c d h2;
    }

pub rule_makes : (v : List ℕ) → Rule v → can_be_block_string v ≡ true
unfolding can_be_block_string
rule_makes v r = rw (r.no_cr, r.first, r.last, r.least)

pub nothing_removed : (k : Option ℕ) → is_zero k ≡ true → (ls : List (List ℕ)) → map (removed k) ls ≡ ls
unfolding removed
nothing_removed k h [] = refl
nothing_removed none h (l ∷ ls) = rw (nothing_removed none h ls)
nothing_removed (some n) h (l ∷ ls) = rw (nothing_removed (some n) h ls, eqb-true n 0 h)

pub front_kept : (ls : List (List ℕ)) → blank (first_line ls) ≡ false → drop_blank_front ls ≡ ls
unfolding drop_blank_front first_line
front_kept [] h = refl
front_kept (l ∷ ls) h = rw h

pub end_kept : (ls : List (List ℕ)) → blank (last_line ls) ≡ false → drop_blank_end ls ≡ ls
unfolding drop_blank_end last_line
end_kept [] h = refl
end_kept (l ∷ []) h = rw h
end_kept (l ∷ (m ∷ ls)) h = rw (end_kept (m ∷ ls) h)

-- the block value by the lines of the raw text
pub value_by_lines : (raw : List ℕ) (ls : List (List ℕ)) → raw_lines raw ≡ ls
    → block_string_value raw ≡ joined (drop_blank_end (drop_blank_front (dedented ls)))
unfolding block_string_value
value_by_lines raw ls e = rw e

raw_lines_after_lf : (v : List ℕ) → raw_lines (line_feed ∷ v) ≡ [] ∷ raw_lines v
unfolding raw_lines
raw_lines_after_lf v = refl

value_of_lines : (v : List ℕ) → Rule v → joined (drop_blank_end (drop_blank_front (dedented ([] ∷ lines v)))) ≡ v
unfolding dedented drop_blank_front
value_of_lines v r =
    rw (
      nothing_removed (common_indent (lines v)) r.least (lines v),
      front_kept (lines v) r.first,
      end_kept (lines v) r.last,
    ) (lines_joined v)

pub first_line_empty : (v : List ℕ) → blank (first_line (raw_lines (line_feed ∷ v))) ≡ true
first_line_empty v = rw (raw_lines_after_lf v) (unfold first_line blank in refl)

pub rule_gives_value : (v : List ℕ) → can_be_block_string v ≡ true → block_string_value (line_feed ∷ v) ≡ v
rule_gives_value v h =
    let r = rule_of_lem v h in
    let e : raw_lines (line_feed ∷ v) ≡ [] ∷ lines v = raw_lines_after_lf v ∙ rw (raw_lines_without_cr v r.no_cr) in
    value_by_lines (line_feed ∷ v) ([] ∷ lines v) e ∙ value_of_lines v r
