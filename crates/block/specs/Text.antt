-- The text of a block string in the order in which it is written, and when it stands on several lines.
use Rattle.std.specs.Prelude.{◌≡◌, refl, Bool, true, false, ◌||◌, List, [], ◌∷◌, ◌++◌, ℕ, suc, ◌+◌, ◌-◌, ◌≤◌, ◌<◌, eqb, ltb, Option, length, take, drop, get_or, if◌then◌else◌}
use Rattle.std.specs.List.{slice_get}
use Rattle.std.specs.Option.{unwrap_or}
use Rattle.std.proofs.lemmas.Option.{unwrap_or-slice_get}
use Rattle.std.proofs.Common.{sym, ◌∙◌, append_assoc, arith, lt-ltb, le-ltb}
use Rattle.std.proofs.Math.Bool.{or-true}
use Rattle.meaning.specs.Ascii.{line_feed, quote, backslash, triple_quote}
use Rattle.meaning.specs.Block.{lines, has, last_byte, multi_line, escaped_line, block_line, block_lines, block_string}
use Rattle.block.specs.Places.{byte_that, is, First}
use Rattle.block.specs.ByLine.{one_line_left, more_lines_left}

-- ---- on one line, or on several

last_byte_at : (v : List ℕ) → 0 < length v → last_byte v ≡ get_or v (length v - 1) 0
unfolding last_byte
last_byte_at [] h = absurd (omega arith)
last_byte_at (b ∷ []) h = refl
last_byte_at (b ∷ (c ∷ v)) h =
    let n : length (b ∷ (c ∷ v)) - 1 ≡ suc (length (c ∷ v) - 1) = omega arith in
    last_byte_at (c ∷ v) (omega arith) ∙ rw n

-- the last byte as the library finds it; 0 of the empty value
pub last_byte_found : (v : List ℕ) (o : Option ℕ) → o ≡ slice_get v (length v - 1) → last_byte v ≡ unwrap_or o 0
last_byte_found [] o e = unfold last_byte in rw e refl
last_byte_found (b ∷ v) o e = last_byte_at (b ∷ v) (omega arith) ∙ rw e (sym (unwrap_or-slice_get (b ∷ v) (length (b ∷ v) - 1) 0))

-- the tests in the order in which they are made
pub multi_line_by_tests : (v : List ℕ)
    → multi_line v ≡ (ltb 70 (length v) || has line_feed v) || (eqb (last_byte v) quote || eqb (last_byte v) backslash)
unfolding multi_line
multi_line_by_tests v = go (has line_feed v) (ltb 70 (length v)) (eqb (last_byte v) quote || eqb (last_byte v) backslash)
  where
    go : (x y z : Bool) → x || (y || z) ≡ (y || x) || z
    go true true z = refl
    go true false z = refl
    go false true z = refl
    go false false z = refl

module _ (v : List ℕ) where
  pub long_is_multi_line : 70 < length v → multi_line v ≡ true
  unfolding multi_line
  long_is_multi_line h = rw (lt-ltb 70 (length v) h) (or-true (has line_feed v))

  pub line_feed_is_multi_line : has line_feed v ≡ true → multi_line v ≡ true
  unfolding multi_line
  line_feed_is_multi_line h = rw h

  pub multi_line_by_last_byte : length v ≤ 70 → has line_feed v ≡ false → 0 < length v
      → multi_line v ≡ eqb (get_or v (length v - 1) 0) quote || eqb (get_or v (length v - 1) 0) backslash
  unfolding multi_line
  multi_line_by_last_byte h n k = rw (le-ltb 70 (length v) h, n, last_byte_at v k)

pub empty_is_one_line : (v : List ℕ) → length v ≡ 0 → multi_line v ≡ false
unfolding multi_line
empty_is_one_line [] h = refl
empty_is_one_line (b ∷ v) h = absurd (omega arith)

-- ---- a line on its own, and the lines

pub empty_line : (ind l : List ℕ) → length l ≡ 0 → line_feed ∷ [] ≡ block_line ind l
unfolding block_line
empty_line ind [] h = refl
empty_line ind (b ∷ l) h = absurd (omega arith)

pub full_line : (ind l : List ℕ) → (length l ≡ 0 → ⊥) → (line_feed ∷ ind) ++ escaped_line l ≡ block_line ind l
unfolding block_line
full_line ind [] h = absurd (h refl)
full_line ind (b ∷ l) h = refl

module _ (ind : List ℕ) {v : List ℕ} {i e : ℕ} (f : First (byte_that (is line_feed)) v i e) where
  pub last_block_line : e ≡ length v → block_lines ind (lines (drop i v)) ≡ block_line ind (take (e - i) (drop i v)) ++ []
  unfolding block_lines
  last_block_line h = rw (one_line_left f h)

  pub next_block_line : e < length v
      → block_lines ind (lines (drop i v)) ≡ block_line ind (take (e - i) (drop i v)) ++ block_lines ind (lines (drop (e + 1) v))
  unfolding block_lines
  next_block_line h = rw (more_lines_left f h)

-- ---- between the quotes

-- the line, or each line on a line of its own and a line break
unfoldable pub between : List ℕ → List ℕ → List ℕ
between ind v = if multi_line v then block_lines ind (lines v) ++ (line_feed ∷ ind) else escaped_line v

pub between_on_one_line : (ind v : List ℕ) → multi_line v ≡ false → escaped_line v ≡ between ind v
unfolding between
between_on_one_line ind v h = rw h

pub between_on_lines : (ind v : List ℕ) → multi_line v ≡ true → block_lines ind (lines v) ++ (line_feed ∷ ind) ≡ between ind v
unfolding between
between_on_lines ind v h = rw h

pub between_quotes : (ind v : List ℕ) → triple_quote ++ (between ind v ++ triple_quote) ≡ block_string ind v
unfolding between block_string
between_quotes ind v = go (multi_line v)
  where
    go : (x : Bool) →
        triple_quote ++ ((if x then block_lines ind (lines v) ++ (line_feed ∷ ind) else escaped_line v) ++ triple_quote)
        ≡ (if x
        then triple_quote ++ (block_lines ind (lines v) ++ ((line_feed ∷ ind) ++ triple_quote))
        else triple_quote ++ (escaped_line v ++ triple_quote))
    go true = rw append_assoc
    go false = refl
