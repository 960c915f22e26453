-- Places found in a value: how far it is to the first place where a test of what follows holds, and what a walk towards it keeps.
use Rattle.std.specs.Prelude.{◌≡◌, refl, Bool, true, false, not, ◌||◌, cond, Some, None, ltb, List, [], ◌∷◌, ◌++◌, ℕ, zero, suc, ◌+◌, ◌-◌, ◌≤◌, ◌<◌, eqb, length, take, drop, get_or, if◌then◌else◌}
use Rattle.std.specs.List.{position, position_or_len}
use Rattle.std.specs.Option.{unwrap_or}
use Rattle.std.proofs.Common.{sym, ap, ◌∙◌, arith, lt-ltb, le-ltb, length-append, length-drop, drop_of_length-le, drop-drop}
use Rattle.std.proofs.Math.Decide.{dec_lt}
use Rattle.std.proofs.Math.Seq.{take-append_seam, drop-append_seam}
use Rattle.std.proofs.lemmas.List.Recursion.{is_position_or_len}
use Rattle.std.proofs.Math.Bool.{or-false, or_assoc}
use Rattle.base.specs.Bools.{clash, or_left_false, or_right_false}
use Rattle.meaning.specs.Ascii.{line_feed, carriage_return}
use Rattle.meaning.specs.Settings.{is_blank}
use Rattle.meaning.specs.Block.{has}
use Rattle.pen.specs.Lists.{drop_one}

-- how many bytes stand before the first place where the test holds; all, where it holds nowhere
unfoldable pub up_to : (List ℕ → Bool) → List ℕ → ℕ
up_to t [] = 0
up_to t (b ∷ v) = let n = suc (up_to t v) in if t (b ∷ v) then 0 else n

-- a test of the byte at the front
abbrev pub byte_that : (ℕ → Bool) → List ℕ → Bool
byte_that p [] = false
byte_that p (b ∷ v) = p b

-- tests of a byte: it is a; it is a or c
abbrev pub is : ℕ → ℕ → Bool
is a b = eqb b a

abbrev pub is_either : ℕ → ℕ → ℕ → Bool
is_either a c b = eqb b a || eqb b c

-- LF or CR
abbrev pub is_line_end : ℕ → Bool
is_line_end = is_either line_feed carriage_return

-- neither a space nor a tab
abbrev pub is_text : ℕ → Bool
is_text b = not (is_blank b)

-- r is the first place from i on where the test holds, or the end
pub record First (t : List ℕ → Bool) (v : List ℕ) (i r : ℕ) : Type 0 where
  pub here : r ≡ i + up_to t (drop i v)
  pub within : r ≤ length v

-- the test holds nowhere from i up to j
pub record Clear (t : List ℕ → Bool) (v : List ℕ) (i j : ℕ) : Type 0 where
  pub forward : i ≤ j
  pub clear : j ≤ i + up_to t (drop i v)
  pub within : j ≤ length v

pub byte_at : (p : ℕ → Bool) (v : List ℕ) (i : ℕ) → i < length v → byte_that p (drop i v) ≡ p (get_or v i 0)
byte_at p v i h = rw (drop_one v i h)

-- ---- distances

-- bytes before the place make it so much nearer
nearer : (t : List ℕ → Bool) (n : ℕ) (v : List ℕ) → n ≤ up_to t v → up_to t v ≡ n + up_to t (drop n v)
unfolding up_to
nearer t zero v h = omega arith
nearer t (suc n) [] h = absurd (omega arith)
nearer t (suc n) (b ∷ v) h = go (t (b ∷ v)) h (nearer t n v)
  where
    go : (x : Bool) → suc n ≤ (if x then 0 else suc (up_to t v)) → (n ≤ up_to t v → up_to t v ≡ n + up_to t (drop n v))
        → (if x then 0 else suc (up_to t v)) ≡ suc n + up_to t (drop n v)
    go true h ih = absurd (omega arith)
    go false h ih = omega (arith, ih (omega arith))

-- a test that asks for more holds no sooner
no_sooner : (t u : List ℕ → Bool) → ((w : List ℕ) → t w ≡ false → u w ≡ false) → (v : List ℕ) → up_to t v ≤ up_to u v
unfolding up_to
no_sooner t u f [] = omega arith
no_sooner t u f (b ∷ v) = go (t (b ∷ v)) (u (b ∷ v)) refl refl (no_sooner t u f v)
  where
    go : (x y : Bool) → t (b ∷ v) ≡ x → u (b ∷ v) ≡ y → up_to t v ≤ up_to u v
        → (if x then 0 else suc (up_to t v)) ≤ (if y then 0 else suc (up_to u v))
    go true y e g ih = omega arith
    go false true e g ih = clash g (f (b ∷ v) e)
    go false false e g ih = omega arith

hit : (t : List ℕ → Bool) (b : ℕ) (v : List ℕ) → t (b ∷ v) ≡ true → up_to t (b ∷ v) ≡ 0
unfolding up_to
hit t b v e = rw e

miss : (t : List ℕ → Bool) (b : ℕ) (v : List ℕ) → t (b ∷ v) ≡ false → up_to t (b ∷ v) ≡ suc (up_to t v)
unfolding up_to
miss t b v e = rw e

nothing_left : (t : List ℕ → Bool) (v : List ℕ) (i : ℕ) → length v ≤ i → up_to t (drop i v) ≡ 0
nothing_left t v i h = rw (drop_of_length-le v h) (unfold up_to in refl)

neither_in_part : (a c n : ℕ) (v : List ℕ) → n ≤ length v → has a (take n v) ≡ false → has c (take n v) ≡ false
    → n ≤ up_to (byte_that (is_either a c)) v
unfolding up_to has
neither_in_part a c zero v h p q = omega arith
neither_in_part a c (suc n) [] h p q = absurd (omega arith)
neither_in_part a c (suc n) (b ∷ v) h p q =
    rw (or_left_false (eqb b a) (has a (take n v)) p, or_left_false (eqb b c) (has c (take n v)) q)
    (omega (
      arith,
      neither_in_part a c n v (omega arith) (or_right_false (eqb b a) (has a (take n v)) p)
          (or_right_false (eqb b c) (has c (take n v)) q),
    ))

holds_there : (t : List ℕ → Bool) (v : List ℕ) → up_to t v < length v → t (drop (up_to t v) v) ≡ true
unfolding up_to
holds_there t [] h = absurd (omega arith)
holds_there t (b ∷ v) h = go (t (b ∷ v)) refl h (holds_there t v)
  where
    go : (x : Bool) → t (b ∷ v) ≡ x → (if x then 0 else suc (up_to t v)) < length (b ∷ v)
        → (up_to t v < length v → t (drop (up_to t v) v) ≡ true)
        → t (drop (if x then 0 else suc (up_to t v)) (b ∷ v)) ≡ true
    go true e h ih = e
    go false e h ih = ih (omega arith)

-- ---- walks

module _ {t : List ℕ → Bool} {v : List ℕ} where
  pub clear_at_first : {i : ℕ} → i ≤ length v → Clear t v i i
  clear_at_first h = record { forward = omega arith; clear = omega arith; within = h }

  -- the place that is looked for is as far as it was
  same_place : {i j : ℕ} → Clear t v i j → i + up_to t (drop i v) ≡ j + up_to t (drop j v)
  same_place {i} {j} c =
      let n = j - i in
      let m : i + n ≡ j = omega (arith, c.forward) in
      let e : drop n (drop i v) ≡ drop j v = drop-drop n i v ∙ rw m in
      let f : up_to t (drop i v) ≡ n + up_to t (drop j v) = rw e at (nearer t n (drop i v) (omega (arith, c.clear, c.forward))) in
      omega (arith, m, f)

  pub clear_on : {i j k : ℕ} → Clear t v i j → Clear t v j k → Clear t v i k
  clear_on c d =
      record {
        forward = omega (arith, c.forward, d.forward);
        clear = omega (arith, same_place c, d.clear);
        within = d.within;
      }

  pub clear_one : {j : ℕ} → j < length v → t (drop j v) ≡ false → Clear t v j (j + 1)
  clear_one {j} h e =
      let d = drop_one v j h in
      let m : up_to t (drop j v) ≡ suc (up_to t (drop (j + 1) v)) = rw d (miss t (get_or v j 0) (drop (j + 1) v) (rw d at e)) in
      record { forward = omega arith; clear = omega (arith, m); within = omega arith }

  pub clear_before : {i r : ℕ} → First t v i r → Clear t v i r
  clear_before f = record { forward = omega (arith, f.here); clear = omega (arith, f.here); within = f.within }

  pub found : {i j : ℕ} → Clear t v i j → j < length v → t (drop j v) ≡ true → First t v i j
  found {i} {j} c h e =
      let d = drop_one v j h in
      let m : up_to t (drop j v) ≡ 0 = rw d (hit t (get_or v j 0) (drop (j + 1) v) (rw d at e)) in
      record { here = omega (arith, same_place c, m); within = c.within }

  pub found_nowhere : {i j : ℕ} → Clear t v i j → length v ≤ j → First t v i j
  found_nowhere {i} {j} c h = record { here = omega (arith, same_place c, nothing_left t v j h); within = c.within }

  pub before_end : {i r : ℕ} → First t v i r → (r ≡ length v → ⊥) → r < length v
  before_end f n = omega (arith, f.within)

  pub found_holds : {i r : ℕ} → First t v i r → r < length v → t (drop r v) ≡ true
  found_holds {i} {r} f h =
      let d : drop r v ≡ drop (up_to t (drop i v)) (drop i v) = rw (f.here, drop-drop (up_to t (drop i v)) i v) in
      rw d (holds_there t (drop i v) (omega (arith, f.here, length-drop i v)))

-- where a test asks for more
pub clear_for : {t u : List ℕ → Bool} {v : List ℕ} {i j : ℕ} → ((w : List ℕ) → t w ≡ false → u w ≡ false) → Clear t v i j
    → Clear u v i j
clear_for {t} {u} {v} {i} f c =
    record { forward = c.forward; clear = omega (arith, c.clear, no_sooner t u f (drop i v)); within = c.within }

-- a part without either byte
pub clear_part : (a c : ℕ) {v : List ℕ} {j e : ℕ} → j ≤ e → e ≤ length v → has a (take (e - j) (drop j v)) ≡ false
    → has c (take (e - j) (drop j v)) ≡ false → Clear (byte_that (is_either a c)) v j e
clear_part a c {v} {j} {e} f w p q =
    record {
      forward = f;
      clear = omega (arith, neither_in_part a c (e - j) (drop j v) (omega (arith, length-drop j v)) p q);
      within = w;
    }

-- a part in front of the rest, without either byte
pub clear_next : (a c : ℕ) {v : List ℕ} (part : List ℕ) {rest : List ℕ} {i j : ℕ} → Clear (byte_that (is_either a c)) v i j → drop j v ≡ part ++ rest
    → has a part ≡ false → has c part ≡ false
    → Clear (byte_that (is_either a c)) v i (j + length part) × (rest ≡ drop (j + length part) v)
clear_next a c {v} part {rest} {i} {j} clear e p q =
    let n = length part in
    let m : j + n - j ≡ n = omega arith in
    let front : take n (drop j v) ≡ part = rw e (take-append_seam part rest) in
    let within : j + n ≤ length v = omega (arith, length-drop j v, ap length e, length-append part rest) in (
      clear_on clear (clear_part a c (omega arith) within (rw (m, front) p) (rw (m, front) q)),
      sym (drop-append_seam part rest) ∙ rw (← e, drop-drop n j v),
    )

pub is_either_lem : (a : ℕ) (w : List ℕ) → byte_that (is_either a a) w ≡ false → byte_that (is a) w ≡ false
is_either_lem a [] h = refl
is_either_lem a (b ∷ w) h = or_left_false (eqb b a) (eqb b a) h

either_is_lem : (a : ℕ) (w : List ℕ) → byte_that (is a) w ≡ false → byte_that (is_either a a) w ≡ false
either_is_lem a [] h = refl
either_is_lem a (b ∷ w) h = rw h refl

-- ---- the library's search

at_front : (x : Bool) (n : ℕ) → (if x then 0 else suc n) ≡ cond x 0 (1 + n)
at_front true n = refl
at_front false n = omega arith

up_to_is_position : (p : ℕ → Bool) (v : List ℕ) → up_to (byte_that p) v ≡ position_or_len p v
unfolding up_to
up_to_is_position p v = is_position_or_len (up_to (byte_that p)) p refl (λ b w. at_front (p b) (up_to (byte_that p) w)) v

up_to_within : (t : List ℕ → Bool) (v : List ℕ) → up_to t v ≤ length v
unfolding up_to
up_to_within t [] = omega arith
up_to_within t (b ∷ v) = go (t (b ∷ v)) (up_to_within t v)
  where
    go : (x : Bool) → up_to t v ≤ length v → (if x then 0 else suc (up_to t v)) ≤ suc (length v)
    go true h = omega arith
    go false h = omega arith

up_to_by_position : (p : ℕ → Bool) (v : List ℕ) → unwrap_or (position p v) (length v) ≡ up_to (byte_that p) v
up_to_by_position p v = rw (← up_to_is_position p v) (go (dec_lt (up_to (byte_that p) v) (length v)))
  where
    n : ℕ
    n = up_to (byte_that p) v

    go : Dec (n < length v) → unwrap_or (cond (ltb n (length v)) (Some n) None) (length v) ≡ n
    go (yes h) = rw (lt-ltb n (length v) h) refl
    go (no h) = rw (le-ltb n (length v) (omega arith)) (omega (arith, up_to_within (byte_that p) v))

-- the place is where the library finds it, behind a part that is clear
pub found_by_position : (p : ℕ → Bool) {v : List ℕ} {i j r : ℕ} → Clear (byte_that p) v i j
    → r ≡ j + unwrap_or (position p (drop j v)) (length (drop j v)) → First (byte_that p) v i r
found_by_position p {v} {i} {j} {r} c e =
    let n = up_to (byte_that p) (drop j v) in
    let f : r ≡ j + n = e ∙ rw (up_to_by_position p (drop j v)) in
    record {
      here = omega (arith, same_place c, f);
      within = omega (arith, f, c.within, up_to_within (byte_that p) (drop j v), length-drop j v);
    }

-- one byte asked for twice
pub first_of_one : (a : ℕ) {v : List ℕ} {i r : ℕ} → First (byte_that (is_either a a)) v i r → First (byte_that (is a)) v i r
first_of_one a {v} {i} f =
    let w = drop i v in
    let sooner = no_sooner (byte_that (is a)) (byte_that (is_either a a)) (either_is_lem a) w in
    let later = no_sooner (byte_that (is_either a a)) (byte_that (is a)) (is_either_lem a) w in
    record { here = omega (arith, f.here, sooner, later); within = f.within }

-- ---- a byte among others

-- seen says whether c stands before i
pub record Seen (c : ℕ) (v : List ℕ) (i : ℕ) (seen : Bool) : Type 0 where
  pub all : seen || has c (drop i v) ≡ has c v
  pub within : i ≤ length v

pub seen_none : {c : ℕ} {v : List ℕ} → Seen c v 0 false
seen_none = record { all = refl; within = omega arith }

pub seen_one : {c : ℕ} {v : List ℕ} {i : ℕ} {seen : Bool} → Seen c v i seen → i < length v
    → Seen c v (i + 1) (seen || eqb (get_or v i 0) c)
unfolding has
seen_one {c} {v} {i} {seen} s h =
    record {
      all = or_assoc seen (eqb (get_or v i 0) c) (has c (drop (i + 1) v)) ∙ rw (drop_one v i h) at s.all;
      within = omega arith;
    }

pub seen_all : {c : ℕ} {v : List ℕ} {i : ℕ} {seen : Bool} → Seen c v i seen → length v ≤ i → seen ≡ has c v
unfolding has
seen_all {c} {v} {i} {seen} s h = sym (or-false seen) ∙ rw (drop_of_length-le v h) at s.all

-- the bytes one at a time from the front
pub has_more : (c : ℕ) (v : List ℕ) (b : ℕ) → has c v || eqb b c ≡ has c (v ++ (b ∷ []))
unfolding has
has_more c [] b = sym (or-false (eqb b c))
has_more c (a ∷ v) b = or_assoc (eqb a c) (has c v) (eqb b c) ∙ ap (λ x. eqb a c || x) (has_more c v b)
