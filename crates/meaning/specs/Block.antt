-- Document 01, "String literals": the block rule and the block form; and the specification's BlockStringValue.
use Rattle.std.specs.Prelude.{Bool, true, false, not, ◌&&◌, ◌||◌, List, [], ◌∷◌, ◌++◌, map, ℕ, zero, suc, min, eqb, ltb, length, drop, if◌then◌else◌}
use Rattle.std.proofs.Math.Option.{Option, none, some}
use Rattle.meaning.specs.Ascii.{line_feed, carriage_return, quote, backslash, triple_quote}
use Rattle.meaning.specs.Settings.{is_blank, blank}

-- ---- lines

-- a byte put in front of the first line
unfoldable pub onto : ℕ → List (List ℕ) → List (List ℕ)
onto b [] = (b ∷ []) ∷ []
onto b (l ∷ ls) = (b ∷ l) ∷ ls

-- the lines of a value, split at LF; there is at least one
unfoldable pub lines : List ℕ → List (List ℕ)
unfolding onto
lines [] = [] ∷ []
lines (b ∷ v) = let ls = lines v in if eqb b line_feed then [] ∷ ls else onto b ls

unfoldable pub first_line : List (List ℕ) → List ℕ
first_line [] = []
first_line (l ∷ ls) = l

unfoldable pub last_line : List (List ℕ) → List ℕ
last_line [] = []
last_line (l ∷ []) = l
last_line (l ∷ (m ∷ ls)) = last_line (m ∷ ls)

-- how many spaces and tabs a line begins with
unfoldable pub indent : List ℕ → ℕ
unfolding is_blank
indent [] = 0
indent (b ∷ l) = let n = suc (indent l) in if is_blank b then n else 0

unfoldable pub lesser : ℕ → Option ℕ → Option ℕ
lesser n none = some n
lesser n (some m) = some (min n m)

-- the least of these over the lines that are not blank; none where all are
unfoldable pub common_indent : List (List ℕ) → Option ℕ
unfolding blank indent lesser
common_indent [] = none
common_indent (l ∷ ls) = let n = common_indent ls in if blank l then n else lesser (indent l) n

-- ---- the block rule

unfoldable pub has : ℕ → List ℕ → Bool
has c [] = false
has c (b ∷ v) = eqb b c || has c v

abbrev pub is_zero : Option ℕ → Bool
is_zero none = true
is_zero (some n) = eqb n 0

-- "no CR; first and last line not blank (..); least count of leading spaces and tabs over non-blank lines is 0"
unfoldable pub can_be_block_string : List ℕ → Bool
unfolding has blank first_line last_line lines common_indent
can_be_block_string v =
    not (has carriage_return v) && (not (blank (first_line (lines v))) && (not (blank (last_line (lines v))) && is_zero (common_indent (lines v))))

-- ---- the block form

unfoldable pub last_byte : List ℕ → ℕ
last_byte [] = 0
last_byte (b ∷ []) = b
last_byte (b ∷ (c ∷ v)) = last_byte (c ∷ v)

-- "It is multi-line if LF is present, or over 70 bytes, or it ends in `"` or `\`."
unfoldable pub multi_line : List ℕ → Bool
unfolding has last_byte
multi_line v = has line_feed v || (ltb 70 (length v) || (eqb (last_byte v) quote || eqb (last_byte v) backslash))

-- three quotes stand at the front
unfoldable pub three_quotes : List ℕ → Bool
three_quotes [] = false
three_quotes (a ∷ []) = false
three_quotes (a ∷ (b ∷ [])) = false
three_quotes (a ∷ (b ∷ (c ∷ s))) = eqb a quote && (eqb b quote && eqb c quote)

-- "`"""` is written `\"""`, leftmost first": the number counts the quotes that are written already
unfoldable pub line_after : ℕ → List ℕ → List ℕ
unfolding three_quotes
line_after k [] = []
line_after zero (b ∷ l) =
    let escape = backslash ∷ (triple_quote ++ line_after 2 l) in
    let plain = b ∷ line_after 0 l in
    if three_quotes (b ∷ l) then escape else plain
line_after (suc k) (b ∷ l) = line_after k l

unfoldable pub escaped_line : List ℕ → List ℕ
unfolding line_after
escaped_line l = line_after 0 l

-- "Empty lines get no indent; lines of blanks do."
unfoldable pub block_line : List ℕ → List ℕ → List ℕ
unfolding escaped_line
block_line ind [] = line_feed ∷ []
block_line ind (b ∷ l) = line_feed ∷ (ind ++ escaped_line (b ∷ l))

unfoldable pub block_lines : List ℕ → List (List ℕ) → List ℕ
unfolding block_line
block_lines ind [] = []
block_lines ind (l ∷ ls) = block_line ind l ++ block_lines ind ls

-- `"""example"""`, or each line on a line of its own between the quotes
unfoldable pub block_string : List ℕ → List ℕ → List ℕ
unfolding multi_line escaped_line block_lines lines
block_string ind v =
    if multi_line v
    then triple_quote ++ (block_lines ind (lines v) ++ ((line_feed ∷ ind) ++ triple_quote))
    else triple_quote ++ (escaped_line v ++ triple_quote)

-- ---- BlockStringValue, in the specification's steps

-- 1. "splitting rawValue by LineTerminator": LF, CR LF or CR. The Bool says that a CR stands just before.
unfoldable pub raw_lines_after : Bool → List ℕ → List (List ℕ)
unfolding onto
raw_lines_after cr [] = [] ∷ []
raw_lines_after cr (b ∷ s) =
    let next = raw_lines_after false s in
    let after_cr = raw_lines_after true s in
    let at_lf = if cr then next else [] ∷ next in
    let other = if eqb b carriage_return then [] ∷ after_cr else onto b next in
    if eqb b line_feed then at_lf else other

unfoldable pub raw_lines : List ℕ → List (List ℕ)
unfolding raw_lines_after
raw_lines raw = raw_lines_after false raw

-- 2 to 4. the common indent of the lines after the first, taken from them
unfoldable pub removed : Option ℕ → List ℕ → List ℕ
removed none l = l
removed (some n) l = drop n l

unfoldable pub dedented : List (List ℕ) → List (List ℕ)
unfolding removed common_indent
dedented [] = []
dedented (l ∷ ls) = l ∷ map (removed (common_indent ls)) ls

-- 5. blank lines dropped at the front
unfoldable pub drop_blank_front : List (List ℕ) → List (List ℕ)
unfolding blank
drop_blank_front [] = []
drop_blank_front (l ∷ ls) = let rest = drop_blank_front ls in if blank l then rest else l ∷ ls

-- 6. and at the end
unfoldable pub unless_blank : List ℕ → List (List ℕ) → List (List ℕ)
unfolding blank
unless_blank l [] = if blank l then [] else l ∷ []
unless_blank l (m ∷ ms) = l ∷ (m ∷ ms)

unfoldable pub drop_blank_end : List (List ℕ) → List (List ℕ)
unfolding unless_blank
drop_blank_end [] = []
drop_blank_end (l ∷ ls) = unless_blank l (drop_blank_end ls)

-- 7, 8. joined by LF
unfoldable pub joined : List (List ℕ) → List ℕ
joined [] = []
joined (l ∷ []) = l
joined (l ∷ (m ∷ ls)) = l ++ (line_feed ∷ joined (m ∷ ls))

unfoldable pub block_string_value : List ℕ → List ℕ
unfolding raw_lines dedented drop_blank_front drop_blank_end joined
block_string_value raw = joined (drop_blank_end (drop_blank_front (dedented (raw_lines raw))))
