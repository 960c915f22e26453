-- The block form of n bytes with f line feeds, under an indentation of l bytes, has at most n + n/3 + 8 + (f + 2)l bytes: an escape
-- adds one byte to three, a line one LF and one indentation, and the ends are two times three quotes, a LF and an indentation.
use Rattle.std.specs.Prelude.{◌≡◌, refl, Bool, true, List, [], ◌∷◌, ◌++◌, ℕ, zero, suc, ◌+◌, ◌*◌, ◌≤◌, eqb, length, if◌then◌else◌}
use Rattle.std.proofs.Math.Bool.{false}
use Rattle.std.proofs.Common.{suc-mul, add-mul, arith, length-append}
use Rattle.meaning.specs.Ascii.{line_feed, backslash, triple_quote}
use Rattle.meaning.specs.Block.{onto, lines, multi_line, three_quotes, line_after, escaped_line, block_line, block_lines, block_string}
use Rattle.meaning.specs.Demand.{line_feeds, block_bound}
use Rattle.literal_laws.specs.Lines.{Some, there_is_a_line}
use Rattle.literal_laws.specs.Quotes.{three_quotes_are_long}

line_after_bound : (k : ℕ) (l : List ℕ) → k ≤ length l → 3 * length (line_after k l) + 4 * k ≤ 4 * length l
unfolding line_after
line_after_bound zero [] h = omega arith
line_after_bound (suc k) [] h = absurd (omega arith)
line_after_bound zero (b ∷ l) h = go (three_quotes (b ∷ l)) refl (line_after_bound 2 l) (line_after_bound 0 l (omega arith))
  where
    go : (x : Bool) → three_quotes (b ∷ l) ≡ x → (2 ≤ length l → 3 * length (line_after 2 l) + 4 * 2 ≤ 4 * length l)
        → 3 * length (line_after 0 l) + 4 * 0 ≤ 4 * length l
        → 3 * length (if x then backslash ∷ (triple_quote ++ line_after 2 l) else b ∷ line_after 0 l) + 4 * 0 ≤ 4 * length (b ∷ l)
    go true e i j = omega (arith, i (three_quotes_are_long b l e))
    go false e i j = omega arith
line_after_bound (suc k) (b ∷ l) h = omega (arith, line_after_bound k l (omega arith))

escaped_line_bound : (l : List ℕ) → 3 * length (escaped_line l) ≤ 4 * length l
unfolding escaped_line
escaped_line_bound l = omega (arith, line_after_bound 0 l (omega arith))

block_line_bound : (ind l : List ℕ) → 3 * length (block_line ind l) ≤ 3 + 3 * length ind + 4 * length l
unfolding block_line
block_line_bound ind [] = omega arith
block_line_bound ind (b ∷ l) = omega (arith, length-append ind (escaped_line (b ∷ l)), escaped_line_bound (b ∷ l))

-- the bytes of all lines
unfoldable size : List (List ℕ) → ℕ
size [] = 0
size (l ∷ ls) = length l + size ls

block_lines_bound : (ind : List ℕ) (ls : List (List ℕ))
    → 3 * length (block_lines ind ls) ≤ 3 * length ls + 3 * (length ls * length ind) + 4 * size ls
unfolding block_lines size
block_lines_bound ind [] = omega arith
block_lines_bound ind (l ∷ ls) =
    omega (
      arith,
      length-append (block_line ind l) (block_lines ind ls),
      block_line_bound ind l,
      block_lines_bound ind ls,
      suc-mul (length ls) (length ind),
    )

onto_adds_one : (b : ℕ) (ls : List (List ℕ)) → Some ls → (length (onto b ls) ≡ length ls) × (size (onto b ls) ≡ suc (size ls))
unfolding onto size
onto_adds_one b [] o = absurd o
onto_adds_one b (l ∷ ls) o = (refl, omega arith)

-- one line more than line feeds, and the other bytes stand in the lines
lines_are_counted : (v : List ℕ) → (length (lines v) ≡ suc (line_feeds v)) × (size (lines v) + line_feeds v ≡ length v)
unfolding lines line_feeds
lines_are_counted [] = (refl, unfold size in omega arith)
lines_are_counted (b ∷ v) = go (eqb b line_feed) (lines_are_counted v)
  where
    go : (x : Bool) → (length (lines v) ≡ suc (line_feeds v)) × (size (lines v) + line_feeds v ≡ length v)
        → (length (if x then [] ∷ lines v else onto b (lines v)) ≡ suc (if x then suc (line_feeds v) else line_feeds v))
        × (size (if x then [] ∷ lines v else onto b (lines v)) + (if x then suc (line_feeds v) else line_feeds v) ≡ length (b ∷ v))
    go true i = (omega (arith, i.0), unfold size in omega (arith, i.1))
    go false i = let o = onto_adds_one b (lines v) (there_is_a_line v) in (omega (arith, i.0, o.0), omega (arith, i.1, o.1))

pub few_feeds : (v : List ℕ) → line_feeds v ≤ length v
few_feeds v = omega (arith, (lines_are_counted v).1)

several_lines_bound : (ind v : List ℕ)
    → length (triple_quote ++ (block_lines ind (lines v) ++ ((line_feed ∷ ind) ++ triple_quote)))
    ≤ block_bound (length v) (line_feeds v) (length ind)
unfolding block_bound
several_lines_bound ind v =
    let f = line_feeds v in
    let n = lines_are_counted v in
    let a : 3 * length (block_lines ind (lines v)) ≤ 3 * suc f + 3 * (suc f * length ind) + 4 * size (lines v) =
    rw n.0 at (block_lines_bound ind (lines v)) in
    omega (
      arith,
      n.1,
      a,
      suc-mul f (length ind),
      add-mul f 2 (length ind),
      length-append (block_lines ind (lines v)) ((line_feed ∷ ind) ++ triple_quote),
      length-append ind triple_quote,
    )

one_line_bound : (ind v : List ℕ)
    → length (triple_quote ++ (escaped_line v ++ triple_quote)) ≤ block_bound (length v) (line_feeds v) (length ind)
unfolding block_bound
one_line_bound ind v = omega (arith, length-append (escaped_line v) triple_quote, escaped_line_bound v)

-- n + n/3 + 8 + (f + 2)l
pub block_bound_lem : (ind v : List ℕ) → length (block_string ind v) ≤ block_bound (length v) (line_feeds v) (length ind)
unfolding block_string
block_bound_lem ind v = go (multi_line v)
  where
    go : (x : Bool) →
        length
        (if x
        then triple_quote ++ (block_lines ind (lines v) ++ ((line_feed ∷ ind) ++ triple_quote))
        else triple_quote ++ (escaped_line v ++ triple_quote))
        ≤ block_bound (length v) (line_feeds v) (length ind)
    go true = several_lines_bound ind v
    go false = one_line_bound ind v
