-- The block form of a value that keeps the block rule reads back, whether on one line or on several: its text is read as the raw
-- text that was meant, and the block value of that is the value.
use Rattle.std.specs.Prelude.{◌≡◌, refl, Bool, true, false, ◌||◌, List, [], ◌∷◌, ◌++◌, ℕ, eqb, ltb, length, if◌then◌else◌}
use Rattle.std.proofs.Math.Option.{some}
use Rattle.base.specs.Bools.{or_left_false, or_right_false}
use Rattle.meaning.specs.Ascii.{line_feed, quote, backslash, triple_quote}
use Rattle.meaning.specs.Settings.{blank}
use Rattle.meaning.specs.Block.{lines, has, can_be_block_string, last_byte, multi_line, escaped_line, block_lines, block_string, block_string_value}
use Rattle.meaning.specs.Reading.{value, block_form, string_value}
use Rattle.literal_laws.specs.BlockExactly.{rule_needs_a_byte}
use Rattle.literal_laws.specs.BlockCharacters.{block_text}
use Rattle.literal_laws.specs.BlockText.{raw_of, several_lines_read, one_line_read}
use Rattle.literal_laws.specs.BlockValue.{several_lines_value, one_line_value}

-- a text after three quotes is read as block text
block_text_read : (x raw v : List ℕ) → block_text x ≡ some raw → block_string_value raw ≡ v
    → string_value (triple_quote ++ x) ≡ value block_form v
unfolding string_value
block_text_read x raw v e f = rw (e, f)

several_lines_read_back : (ind v : List ℕ) → blank ind ≡ true → can_be_block_string v ≡ true
    → string_value (triple_quote ++ (block_lines ind (lines v) ++ ((line_feed ∷ ind) ++ triple_quote))) ≡ value block_form v
several_lines_read_back ind v bl h =
    block_text_read (block_lines ind (lines v) ++ ((line_feed ∷ ind) ++ triple_quote)) (raw_of ind (lines v) ++ (line_feed ∷ ind)) v
    (several_lines_read ind bl (lines v))
    (several_lines_value ind v bl h)

-- what a value on one line has not
record OneLine (v : List ℕ) : Type 0 where
  no_lf : has line_feed v ≡ false
  no_quote : eqb (last_byte v) quote ≡ false
  no_backslash : eqb (last_byte v) backslash ≡ false

one_line_of : (v : List ℕ) → multi_line v ≡ false → OneLine v
unfolding multi_line
one_line_of v m =
    let long = ltb 70 (length v) in
    let q = eqb (last_byte v) quote in
    let b = eqb (last_byte v) backslash in
    let m1 : long || (q || b) ≡ false = or_right_false (has line_feed v) (long || (q || b)) m in
    let m2 : q || b ≡ false = or_right_false long (q || b) m1 in
    record {
      no_lf = or_left_false (has line_feed v) (long || (q || b)) m;
      no_quote = or_left_false q b m2;
      no_backslash = or_right_false q b m2;
    }

one_line_reads_back : (v : List ℕ) → can_be_block_string v ≡ true → OneLine v
    → string_value (triple_quote ++ (escaped_line v ++ triple_quote)) ≡ value block_form v
one_line_reads_back [] h o = absurd (rule_needs_a_byte [] h refl)
one_line_reads_back (b ∷ v) h o =
    block_text_read (escaped_line (b ∷ v) ++ triple_quote) (b ∷ v) (b ∷ v)
    (one_line_read b v o.no_quote o.no_backslash)
    (one_line_value (b ∷ v) h o.no_lf)

pub block_reads_back : (ind v : List ℕ) → blank ind ≡ true → can_be_block_string v ≡ true
    → string_value (block_string ind v) ≡ value block_form v
unfolding block_string
block_reads_back ind v bl h = go (multi_line v) refl
  where
    go : (x : Bool) → multi_line v ≡ x
        → string_value
        (if x
        then triple_quote ++ (block_lines ind (lines v) ++ ((line_feed ∷ ind) ++ triple_quote))
        else triple_quote ++ (escaped_line v ++ triple_quote))
        ≡ value block_form v
    go true e = several_lines_read_back ind v bl h
    go false e = one_line_reads_back v h (one_line_of v e)
