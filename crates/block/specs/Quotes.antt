-- Three quotes at a place of a line, and the line escaped up to there.
use Rattle.std.specs.Prelude.{◌≡◌, refl, Bool, true, false, List, [], ◌∷◌, ◌++◌, ℕ, zero, suc, ◌+◌, ◌-◌, ◌≤◌, ◌<◌, take, drop, get_or, if◌then◌else◌}
use Rattle.std.proofs.Common.{◌∙◌, length-drop, drop_of_length-le}
use native.Mathlib.Omega.{arith}
use Rattle.std.proofs.Math.ListN.{length}
use Rattle.std.proofs.Math.Seq.{drop-drop}
use Rattle.meaning.specs.Ascii.{quote, backslash, triple_quote}
use Rattle.meaning.specs.Block.{three_quotes, line_after, escaped_line}
use Rattle.literal_laws.specs.Quotes.{no_quote_no_three, three_quotes_are_long}
use Rattle.pen.specs.Lists.{drop_one}
use Rattle.block.specs.Places.{up_to, byte_that, is, First, found_holds}

pub three_begin_with_one : (w : List ℕ) → byte_that (is quote) w ≡ false → three_quotes w ≡ false
three_begin_with_one [] h = no_quote_no_three [] refl
three_begin_with_one (b ∷ w) h = no_quote_no_three (b ∷ w) h

-- ---- a line escaped up to three quotes

after_written : (k : ℕ) (l : List ℕ) → line_after k l ≡ escaped_line (drop k l)
unfolding line_after escaped_line
after_written zero l = refl
after_written (suc k) [] = refl
after_written (suc k) (b ∷ l) = after_written k l

-- what is written of three quotes and what follows them
unfoldable from_quotes : List ℕ → List ℕ
from_quotes [] = []
from_quotes (b ∷ l) = (backslash ∷ triple_quote) ++ escaped_line (drop 2 l)

escaped_up_to : (l : List ℕ) → let n = up_to three_quotes l in escaped_line l ≡ take n l ++ from_quotes (drop n l)
unfolding escaped_line up_to from_quotes
escaped_up_to [] = refl
escaped_up_to (b ∷ l) = go (three_quotes (b ∷ l)) (escaped_up_to l)
  where
    n : ℕ
    n = up_to three_quotes l

    go : (x : Bool) → escaped_line l ≡ take n l ++ from_quotes (drop n l)
        → (if x then backslash ∷ (triple_quote ++ line_after 2 l) else b ∷ line_after 0 l)
        ≡ take (if x then 0 else suc n) (b ∷ l) ++ from_quotes (drop (if x then 0 else suc n) (b ∷ l))
    go true ih = rw (after_written 2 l)
    go false ih = rw (after_written 0 l, ih)

module _ {l : List ℕ} {i q : ℕ} (f : First three_quotes l i q) where
  escaped_from : escaped_line (drop i l) ≡ take (q - i) (drop i l) ++ from_quotes (drop q l)
  escaped_from =
      let n = up_to three_quotes (drop i l) in
      let m : n ≡ q - i = omega (arith, f.here) in
      escaped_up_to (drop i l) ∙ rw (drop-drop n i l, ← f.here, m)

  pub no_quotes_left : q ≡ length l → escaped_line (drop i l) ≡ take (q - i) (drop i l) ++ []
  unfolding from_quotes
  no_quotes_left h = let k : length l ≤ q = omega arith in escaped_from ∙ rw (drop_of_length-le l k)

  pub quotes_left : q < length l
      → escaped_line (drop i l) ≡ take (q - i) (drop i l) ++ ((backslash ∷ triple_quote) ++ escaped_line (drop (q + 3) l))
  unfolding from_quotes
  quotes_left h =
      let n : q + 1 + 2 ≡ q + 3 = omega arith in
      escaped_from ∙ rw (drop_one l q h, drop-drop 2 (q + 1) l, n)

  pub quotes_are_three : q < length l → q + 3 ≤ length l
  quotes_are_three h =
      let e : three_quotes (get_or l q 0 ∷ drop (q + 1) l) ≡ true = rw (drop_one l q h) at (found_holds f h) in
      omega (arith, three_quotes_are_long (get_or l q 0) (drop (q + 1) l) e, length-drop (q + 1) l)

  pub less_is_left : q < length l → length l - (q + 3) < length l - i
  less_is_left h = omega (arith, f.here, quotes_are_three h)
