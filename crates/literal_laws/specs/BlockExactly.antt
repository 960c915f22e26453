-- A literal is in block form exactly if line breaks are on, the value is a description or holds a line feed, and it is non-empty and
-- the block value of some raw text whose first line is blank: such a value keeps the block rule, and LF before a value that keeps it
-- is such a text.
use Rattle.std.specs.Prelude.{◌≡◌, refl, Bool, true, false, ◌&&◌, ◌||◌, List, [], ◌∷◌, map, ℕ}
use Rattle.std.proofs.Common.{sym, ◌∙◌, ap}
use Rattle.base.specs.Bools.{clash, and_left, and_right}
use Rattle.meaning.specs.Ascii.{line_feed, carriage_return}
use Rattle.meaning.specs.Settings.{Settings, blank}
use Rattle.meaning.specs.Block.{lines, first_line, last_line, common_indent, has, is_zero, can_be_block_string, raw_lines, removed, dedented, drop_blank_front, drop_blank_end, joined, block_string_value}
use Rattle.meaning.specs.Literal.{takes_block}
use Rattle.meaning.specs.Demand.{BlockReason, BlockExactly}
use Rattle.literal_laws.specs.Lines.{Some}
use Rattle.literal_laws.specs.Rule.{rule_makes, first_line_empty, rule_gives_value}
use Rattle.literal_laws.specs.Clean.{clean, all_clean, raw_lines_clean, removed_clean, front_clean, end_clean, lines_of_joined, no_cr_in_joined}
use Rattle.literal_laws.specs.Trim.{front_not_blank, end_keeps_first, end_not_blank, some_before_end, front_keeps_indent, end_keeps_indent, zero_once_removed}

-- ---- from the raw text to the rule

rule_by_lines : (v : List ℕ) (ls : List (List ℕ)) → lines v ≡ ls → has carriage_return v ≡ false → blank (first_line ls) ≡ false
    → blank (last_line ls) ≡ false → is_zero (common_indent ls) ≡ true → can_be_block_string v ≡ true
rule_by_lines v ls e c f l z = rule_makes v (record { no_cr = c; first = rw e f; last = rw e l; least = rw e z })

joined_keeps_rule : (ms : List (List ℕ)) → all_clean ms ≡ true → is_zero (common_indent ms) ≡ true
    → (Some ms → blank (first_line ms) ≡ false) → (Some ms → blank (last_line ms) ≡ false) → (joined ms ≡ [] → ⊥)
    → can_be_block_string (joined ms) ≡ true
joined_keeps_rule [] c z f l v = absurd (v (unfold joined in refl))
joined_keeps_rule (m ∷ ms) c z f l v =
    rule_by_lines (joined (m ∷ ms)) (m ∷ ms) (lines_of_joined m ms c) (no_cr_in_joined (m ∷ ms) c) (f tt) (l tt) z

trimmed_keeps_rule : (ks : List (List ℕ)) → all_clean ks ≡ true → is_zero (common_indent ks) ≡ true
    → (joined (drop_blank_end (drop_blank_front ks)) ≡ [] → ⊥) → can_be_block_string (joined (drop_blank_end (drop_blank_front ks))) ≡ true
trimmed_keeps_rule ks c z v =
    let fs = drop_blank_front ks in
    joined_keeps_rule (drop_blank_end fs) (end_clean fs (front_clean ks c))
    (rw (end_keeps_indent fs, front_keeps_indent ks) z)
    (λ o. end_keeps_first fs (front_not_blank ks (some_before_end fs o)))
    (end_not_blank fs)
    v

value_keeps_rule : (ls : List (List ℕ)) → all_clean ls ≡ true → blank (first_line ls) ≡ true
    → (joined (drop_blank_end (drop_blank_front (dedented ls))) ≡ [] → ⊥)
    → can_be_block_string (joined (drop_blank_end (drop_blank_front (dedented ls)))) ≡ true
unfolding all_clean first_line drop_blank_front dedented
value_keeps_rule [] c h v = absurd (v (unfold drop_blank_end joined in refl))
value_keeps_rule (l ∷ ls) c h v =
    let k = common_indent ls in
    let ks = map (removed k) ls in
    let e : drop_blank_front (l ∷ ks) ≡ drop_blank_front ks = rw h in
    rw e (trimmed_keeps_rule ks (removed_clean k ls (and_right (clean l) (all_clean ls) c)) (zero_once_removed k ls refl) (rw e at v))

pub raw_text_gives_rule : (raw v : List ℕ) → blank (first_line (raw_lines raw)) ≡ true → block_string_value raw ≡ v → (v ≡ [] → ⊥)
    → can_be_block_string v ≡ true
unfolding block_string_value
raw_text_gives_rule raw v h e n = rw (← e) (value_keeps_rule (raw_lines raw) (raw_lines_clean raw) h (rw (← e) at n))

-- ---- both directions

empty_breaks_rule : can_be_block_string [] ≡ false
unfolding can_be_block_string
empty_breaks_rule = refl

pub rule_needs_a_byte : (v : List ℕ) → can_be_block_string v ≡ true → v ≡ [] → ⊥
rule_needs_a_byte v h e = clash (ap can_be_block_string (sym e) ∙ h) empty_breaks_rule

reason_of : (s : Settings) (d : Bool) (v : List ℕ) → takes_block s d v ≡ true → BlockReason s d v
unfolding takes_block
reason_of s d v h =
    let a = d || has line_feed v in
    let h1 : a && can_be_block_string v ≡ true = and_right s.breaks (a && can_be_block_string v) h in
    let c = and_right a (can_be_block_string v) h1 in
    record {
      breaks = and_left s.breaks (a && can_be_block_string v) h;
      asked = and_left a (can_be_block_string v) h1;
      some_byte = rule_needs_a_byte v c;
      raw = line_feed ∷ v;
      first_blank = first_line_empty v;
      its_value = rule_gives_value v c;
    }

block_from : (s : Settings) (d : Bool) (v : List ℕ) → BlockReason s d v → takes_block s d v ≡ true
unfolding takes_block
block_from s d v r =
    rw (r.breaks, r.asked) (raw_text_gives_rule r.raw v r.first_blank r.its_value r.some_byte)

pub block_exactly : (s : Settings) (d : Bool) (v : List ℕ) → BlockExactly s d v
block_exactly s d v = (reason_of s d v, block_from s d v)
