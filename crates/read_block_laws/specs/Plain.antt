-- Bytes that are no marks, that is neither LF, CR, quote nor backslash, are passed over by every walk: they end no line and no run
-- of bytes that stand for themselves, and begin neither the closing quotes nor an escape.
use Rattle.std.specs.Prelude.{◌≡◌, refl, Bool, true, false, ◌||◌, List, [], ◌∷◌, ◌++◌, ℕ, zero, suc, ◌+◌, ◌-◌, ◌≤◌, ◌<◌, length, take, drop, get_or}
use Rattle.std.proofs.Common.{sym, ◌∙◌, add-one, arith, length-drop, drop-cons, drop-drop, get_or-drop, take-suc, take-add}
use Rattle.std.proofs.Math.Dec.{eqb}
use Rattle.base.specs.Bools.{or_left_false, or_right_false, or_both_false}
use Rattle.meaning.specs.Ascii.{line_feed, carriage_return, quote, backslash}
use Rattle.literal_laws.specs.Quotes.{no_quote_no_three}
use Rattle.read_block_laws.specs.Unescaped.{escapes}
use Rattle.read_block_laws.specs.Closing.{closed, closed_after_byte}
use Rattle.read_block_laws.specs.FirstLine.{is_line_end, line_length}
use Rattle.read_block_laws.specs.Text.{stops, run_length}

-- LF, CR, quote or backslash
unfoldable pub is_mark : ℕ → Bool
is_mark b = ((eqb b line_feed || eqb b carriage_return) || eqb b quote) || eqb b backslash

-- a mark is among these bytes
unfoldable pub marked : List ℕ → Bool
unfolding is_mark
marked [] = false
marked (b ∷ s) = is_mark b || marked s

-- ---- one byte

record NoMark (b : ℕ) : Type 0 where
  no_end : is_line_end b ≡ false
  no_quote : eqb b quote ≡ false
  no_backslash : eqb b backslash ≡ false

no_mark : (b : ℕ) → is_mark b ≡ false → NoMark b
unfolding is_mark
no_mark b e =
    let lf = eqb b line_feed in
    let cr = eqb b carriage_return in
    let f = or_left_false ((lf || cr) || eqb b quote) (eqb b backslash) e in
    record {
      no_end = unfold is_line_end in or_left_false (lf || cr) (eqb b quote) f;
      no_quote = or_right_false (lf || cr) (eqb b quote) f;
      no_backslash = or_right_false ((lf || cr) || eqb b quote) (eqb b backslash) e;
    }

no_escape_lem : (b : ℕ) (s : List ℕ) → NoMark b → escapes (b ∷ s) ≡ false
unfolding escapes
no_escape_lem b s m = rw m.no_backslash

-- ---- k bytes

module _ (b k : ℕ) (s : List ℕ) (e : marked (b ∷ take k s) ≡ false) where
  first_no_mark : NoMark b
  first_no_mark = no_mark b (unfold marked in or_left_false (is_mark b) (marked (take k s)) e)

  rest_not_marked : marked (take k s) ≡ false
  rest_not_marked = unfold marked in or_right_false (is_mark b) (marked (take k s)) e

line_past_plain : (k : ℕ) (s : List ℕ) → k ≤ length s → marked (take k s) ≡ false → line_length s ≡ k + line_length (drop k s)
unfolding line_length
line_past_plain zero s h e = omega arith
line_past_plain (suc k) [] h e = absurd (omega arith)
line_past_plain (suc k) (b ∷ s) h e =
    rw (first_no_mark b k s e).no_end (omega (arith, line_past_plain k s (omega arith) (rest_not_marked b k s e)))

run_past_plain : (k : ℕ) (s : List ℕ) → k ≤ length s → marked (take k s) ≡ false → run_length s ≡ k + run_length (drop k s)
unfolding run_length
run_past_plain zero s h e = omega arith
run_past_plain (suc k) [] h e = absurd (omega arith)
run_past_plain (suc k) (b ∷ s) h e =
    let m = first_no_mark b k s e in
    let f : stops (b ∷ s) ≡ false = or_both_false (is_line_end b) (escapes (b ∷ s)) m.no_end (no_escape_lem b s m) in
    rw f (omega (arith, run_past_plain k s (omega arith) (rest_not_marked b k s e)))

closed_past_plain : (k : ℕ) (s : List ℕ) → k ≤ length s → marked (take k s) ≡ false → closed s ≡ closed (drop k s)
closed_past_plain zero s h e = refl
closed_past_plain (suc k) [] h e = absurd (omega arith)
closed_past_plain (suc k) (b ∷ s) h e =
    let m = first_no_mark b k s e in
    closed_after_byte b s (no_quote_no_three (b ∷ s) m.no_quote) (no_escape_lem b s m)
    ∙ closed_past_plain k s (omega arith) (rest_not_marked b k s e)

marked_both : (s t : List ℕ) → marked (s ++ t) ≡ marked s || marked t
unfolding marked
marked_both [] t = refl
marked_both (b ∷ s) t = rw (marked_both s t) (go (is_mark b))
  where
    go : (x : Bool) → x || (marked s || marked t) ≡ (x || marked s) || marked t
    go true = refl
    go false = refl

-- ---- by places

-- no mark stands from i up to j
pub record Plain (s : List ℕ) (i j : ℕ) : Type 0 where
  pub onward : i ≤ j
  pub within : j ≤ length s
  pub none : marked (take (j - i) (drop i s)) ≡ false

pub none_marked : (s : List ℕ) → marked (take 0 s) ≡ false
unfolding marked
none_marked s = refl

one_byte_lem : (b : ℕ) → marked (b ∷ []) ≡ is_mark b
unfolding marked
one_byte_lem b = go (is_mark b)
  where
    go : (x : Bool) → x || false ≡ x
    go true = refl
    go false = refl

pub one_more_byte : (s : List ℕ) (i k : ℕ) → i + k < length s
    → marked (take (k + 1) (drop i s)) ≡ marked (take k (drop i s)) || is_mark (get_or s (i + k) 0)
one_more_byte s i k h =
    let t : List ℕ = drop i s in
    let l : k < length t = omega (arith, length-drop i s) in
    rw (add-one k, take-suc t k 0 l, marked_both (take k t) (get_or t k 0 ∷ []), one_byte_lem (get_or t k 0), get_or-drop i s k 0)

pub plain_so_far : (s : List ℕ) (i : ℕ) → i ≤ length s → Plain s i i
plain_so_far s i h =
    let e : i - i ≡ 0 = omega arith in record { onward = omega arith; within = h; none = rw e (none_marked (drop i s)) }

pub plain_further : (s : List ℕ) (i j k : ℕ) → Plain s i j → j + k ≤ length s → marked (take k (drop j s)) ≡ false
    → Plain s i (j + k)
plain_further s i j k p h e =
    let n : j + k - i ≡ (j - i) + k = omega (arith, p.onward) in
    let m : i + (j - i) ≡ j = omega (arith, p.onward) in
    let d : drop (j - i) (drop i s) ≡ drop j s = drop-drop (j - i) i s ∙ rw m in
    let two = marked_both (take (j - i) (drop i s)) (take k (drop (j - i) (drop i s))) in
    record {
      onward = omega (arith, p.onward);
      within = h;
      none = rw (n, take-add (j - i) k (drop i s), two, d, p.none) e;
    }

pub plain_one_further : (s : List ℕ) (i j : ℕ) → Plain s i j → j < length s → is_mark (get_or s j 0) ≡ false → Plain s i (j + 1)
plain_one_further s i j p h e =
    let one : take 1 (drop j s) ≡ get_or s j 0 ∷ [] = rw (drop-cons s j 0 h) in
    plain_further s i j 1 p (omega arith) (rw one (one_byte_lem (get_or s j 0) ∙ e))

module _ (s : List ℕ) (i j : ℕ) (p : Plain s i j) where
  short : j - i ≤ length (drop i s)
  short = omega (arith, p.within, length-drop i s)

  there : drop (j - i) (drop i s) ≡ drop j s
  there = let m : i + (j - i) ≡ j = omega (arith, p.onward) in drop-drop (j - i) i s ∙ rw m

  pub line_goes_on : j + line_length (drop j s) ≡ i + line_length (drop i s)
  line_goes_on = rw (← there) (omega (arith, line_past_plain (j - i) (drop i s) short p.none, p.onward))

  pub run_goes_on : j + run_length (drop j s) ≡ i + run_length (drop i s)
  run_goes_on = rw (← there) (omega (arith, run_past_plain (j - i) (drop i s) short p.none, p.onward))

  pub closing_goes_on : closed (drop j s) ≡ closed (drop i s)
  closing_goes_on = rw (← there) (sym (closed_past_plain (j - i) (drop i s) short p.none))
