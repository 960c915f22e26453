-- The literal once its form is chosen, and whether it fits.
use Rattle.std.specs.Prelude.{◌≡◌, refl, Bool, true, false, not, ◌&&◌, ◌||◌, List, ℕ, ◌+◌, ◌*◌, ◌≤◌, ◌<◌, leb, length, Result, Ok, Err, if◌then◌else◌}
use Rattle.std.proofs.Common.{arith, mul-le-mul, le-leb}
use Rattle.std.proofs.lemmas.Bool.{lt-leb}
use Rattle.base.specs.Bools.{clash, not_true, not_false}
use Rattle.meaning.specs.Ascii.{line_feed}
use Rattle.meaning.specs.Settings.{settings, times}
use Rattle.meaning.specs.Quoted.{quoted}
use Rattle.meaning.specs.Block.{has, can_be_block_string, block_string}
use Rattle.meaning.specs.Literal.{literal}
use Rattle.meaning.specs.Demand.{line_feeds, quoted_bound, block_bound}
use Rattle.literal_laws.specs.QuotedBound.{quoted_bound_lem}
use Rattle.literal_laws.specs.BlockBound.{few_feeds, block_bound_lem}
use Rattle.literal_laws.specs.Bounded.{length_of_times}
use Rattle.pen.specs.Put.{last}
use Rattle.meaning.specs.declared.Refusal.{Refusal}
use Rattle.meaning.specs.declared.Refusal.TheVariants.{Room}

unfoldable pub chosen : Bool → List ℕ → List ℕ → List ℕ
chosen in_block ind v = if in_block then block_string ind v else quoted v

-- it fits into so many bytes, or is refused with the room that it needs
unfoldable pub fit_of : List ℕ → ℕ → Result Unit Refusal
fit_of t room = if leb (length t) room then Ok tt else Err (Room record { 0 = length t })

pub chosen_block : (b : Bool) (ind v : List ℕ) → b ≡ true → block_string ind v ≡ chosen b ind v
unfolding chosen
chosen_block b ind v e = rw e

pub chosen_quoted : (b : Bool) (ind v : List ℕ) → b ≡ false → quoted v ≡ chosen b ind v
unfolding chosen
chosen_quoted b ind v e = rw e

-- the literal is the one of the form that it takes
pub chosen_is_literal : (b d : Bool) (p : List ℕ) (l : ℕ) (v : List ℕ) (c : Bool) → c ≡ (b && ((d || has line_feed v) && can_be_block_string v))
    → chosen c (times l p) v ≡ literal (settings b p l) d v
unfolding chosen literal
chosen_is_literal b d p l v c e = rw e

pub fits_yes : (t : List ℕ) (room : ℕ) → length t ≤ room → Ok tt ≡ fit_of t room
unfolding fit_of
fits_yes t room h = rw (le-leb (length t) room h)

pub fits_needs : (t : List ℕ) (room n : ℕ) → n ≡ length t → room < n → Err (Room record { 0 = n }) ≡ fit_of t room
unfolding fit_of
fits_needs t room n e h = rw (lt-leb (length t) room (omega arith), e)

-- ---- how long it can be

pub sure_fit : (b : Bool) (ind v : List ℕ) (room : ℕ) → b ≡ false → 6 * length v + 2 ≤ room → length (chosen b ind v) ≤ room
unfolding chosen
sure_fit b ind v room e h = let k : length (quoted v) ≤ 6 * length v + 2 = unfold quoted_bound in quoted_bound_lem v in rw e (omega arith)

-- far below 2^64
pub chosen_is_short : (b : Bool) (p : List ℕ) (l : ℕ) (v : List ℕ) → length v ≤ 65536 → length p ≤ 16 → l ≤ 128 → length (chosen b (times l p) v) ≤ last
unfolding chosen quoted_bound block_bound
chosen_is_short true p l v h k m =
    let i : length (times l p) ≤ 2048 = omega (arith, length_of_times l p, mul-le-mul m k) in
    let f : line_feeds v + 2 ≤ 65538 = omega (arith, few_feeds v) in
    omega (arith, block_bound_lem (times l p) v, mul-le-mul f i)
chosen_is_short false p l v h k m = omega (arith, quoted_bound_lem v)

-- ---- the tests of the choice, in order: breaks b, a description d, a line feed n, a value k that a block string can stand for

pub no_breaks : (b x : Bool) → not b ≡ true → false ≡ (b && x)
no_breaks true x e = clash e refl
no_breaks false x e = refl

pub described : (b d n k r : Bool) → not b ≡ false → d ≡ true → r ≡ k → r ≡ (b && ((d || n) && k))
described true d n k r e f g = rw f g
described false d n k r e f g = clash refl e

pub no_feed : (b d n k m : Bool) → not b ≡ false → d ≡ false → m ≡ n → not m ≡ true → false ≡ (b && ((d || n) && k))
no_feed true d n k m e f g h = rw (f, ← g, not_true m h)
no_feed false d n k m e f g h = clash refl e

pub some_feed : (b d n k m r : Bool) → not b ≡ false → d ≡ false → m ≡ n → not m ≡ false → r ≡ k → r ≡ (b && ((d || n) && k))
some_feed true d n k m r e f g h i = rw (f, ← g, not_false m h) i
some_feed false d n k m r e f g h i = clash refl e
