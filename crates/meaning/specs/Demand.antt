-- What is promised of every literal: demand 3 and the bounds of document 01. These are statements; the crate `demand` proves them.
use Rattle.std.specs.Prelude.{◌≡◌, ◌↔◌, Bool, true, false, ◌&&◌, ◌||◌, List, [], ◌∷◌, ◌++◌, ℕ, suc, ◌+◌, ◌*◌, ◌/◌, ◌≤◌, eqb, length, take, drop, if◌then◌else◌}
use Rattle.std.proofs.Math.Option.{some}
use Rattle.meaning.specs.Ascii.{line_feed}
use Rattle.meaning.specs.Utf8.{scalar, encoded, utf8}
use Rattle.meaning.specs.Settings.{Settings, blank, literal_levels, settings_fault}
use Rattle.meaning.specs.Block.{has, raw_lines, first_line, block_string_value}
use Rattle.meaning.specs.Literal.{takes_block, literal}
use Rattle.meaning.specs.Reading.{Form, quoted_form, block_form, value, reading}
use Rattle.meaning.specs.Refusals.{value_size_fault}
use Rattle.meaning.specs.Answers.{answer}
use Rattle.meaning.specs.Entries.{printed_literal, read_literal}

-- ---- "With n bytes, f line feeds and L indent bytes (level times prefix length): quoted at most 6n + 2;
-- block at most n + floor(n/3) + 8 + (f + 2)L."

unfoldable pub line_feeds : List ℕ → ℕ
line_feeds [] = 0
line_feeds (b ∷ v) = let n = line_feeds v in if eqb b line_feed then suc n else n

unfoldable pub quoted_bound : ℕ → ℕ
quoted_bound n = 6 * n + 2

unfoldable pub block_bound : ℕ → ℕ → ℕ → ℕ
block_bound n f l = n + n / 3 + 8 + (f + 2) * l

abbrev pub Bounded : Settings → Bool → List ℕ → Type 0
Bounded s d v =
    length (literal s d v)
    ≤ (if takes_block s d v then block_bound (length v) (line_feeds v) (s.level * length s.prefix) else quoted_bound (length v))

-- ---- "demand 2's reading, given room, returns exactly that value"

unfoldable pub form_of : Settings → Bool → List ℕ → Form
form_of s d v = if takes_block s d v then block_form else quoted_form

abbrev pub ReadsBack : Settings → Bool → List ℕ → Type 0
ReadsBack s d v = blank s.prefix ≡ true → utf8 v ≡ true → reading (literal s d v) ≡ value (form_of s d v) v

-- ---- "It is in block form exactly if line breaks are on, the value is a description or holds a line feed, and it is non-empty
-- and the specification's block value of some raw text whose first line is blank."

pub record BlockReason (s : Settings) (d : Bool) (v : List ℕ) : Type 0 where
  pub breaks : s.breaks ≡ true
  pub asked : d || has line_feed v ≡ true
  pub some_byte : v ≡ [] → ⊥
  pub raw : List ℕ
  pub first_blank : blank (first_line (raw_lines raw)) ≡ true
  pub its_value : block_string_value raw ≡ v

abbrev pub BlockExactly : Settings → Bool → List ℕ → Type 0
BlockExactly s d v = (takes_block s d v ≡ true) ↔ BlockReason s d v

-- ---- UTF-8 is what the encodings of scalar values make

unfoldable pub encodings : List ℕ → List ℕ
encodings [] = []
encodings (n ∷ ns) = encoded n ++ encodings ns

unfoldable pub scalars : List ℕ → Bool
scalars [] = true
scalars (n ∷ ns) = scalar n && scalars ns

abbrev pub Utf8Exactly : List ℕ → Type 0
Utf8Exactly text = (utf8 text ≡ true) ↔ ((ns : List ℕ) × (scalars ns ≡ true) × (encodings ns ≡ text))

-- ---- demand 3, whole

-- "Any UTF-8 value up to 65,536 bytes, .. level up to 128, prefix of up to 16 spaces and tabs"
pub record Printable (s : Settings) (v : List ℕ) : Type 0 where
  pub settings_fine : settings_fault literal_levels s ≡ false
  pub size_fine : value_size_fault v ≡ false
  pub is_utf8 : utf8 v ≡ true

pub record Demand3 (s : Settings) (d : Bool) (v : List ℕ) : Type 0 where
  -- "printing succeeds exactly if demand 2's literal fits"
  pub succeeds : (out : List ℕ) → ((printed_literal s d v out).0.number ≡ 0) ↔ (length (literal s d v) ≤ length out)
  -- "more room never alters it"
  pub same_text : (out : List ℕ) → length (literal s d v) ≤ length out → take (length (literal s d v)) (printed_literal s d v out).1 ≡ literal s d v
  -- "demand 2's reading, given room, returns exactly that value"
  pub read_back : (out : List ℕ) → length v ≤ length out → read_literal (literal s d v) out ≡ (answer 0 0 (length v), some (form_of s d v), v ++ drop (length v) out)
  pub in_block : BlockExactly s d v
  pub bounds : Bounded s d v
