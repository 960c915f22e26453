-- Runs of bytes that stand for themselves in quoted text: they are read at once, and what ends a run is a quote, a backslash or a line
-- end.
use Rattle.std.specs.Prelude.{◌≡◌, refl, Bool, true, not, ◌&&◌, List, [], ◌∷◌, length, take, drop, get_or, if◌then◌else◌}
use Rattle.std.proofs.Common.{ℕ, suc, ◌+◌, ◌-◌, ◌≤◌, ◌<◌, arith, eqb-true, ne_eqb, sym, ap, ◌∙◌, not-suc-le-zero, length-drop, drop_of_length-le, drop-drop, get_or-drop}
use Rattle.std.proofs.Math.Bool.{false}
use Rattle.std.proofs.Math.Dec.{eqb}
use Rattle.base.specs.Bools.{and_left, and_right, not_true}
use Rattle.meaning.specs.Ascii.{line_feed, carriage_return, quote, backslash}
use Rattle.meaning.specs.Quoted.{class}
use Rattle.meaning.specs.Reading.{character, quoted_front, prepend, characters}
use Rattle.literal_laws.specs.Characters.{prepend_nothing, prepend_twice, character_read}
use Rattle.pen.specs.Lists.{drop_one}
use Rattle.quoted.specs.CleanRun.{clean_run}

-- a byte that stands for itself
unfoldable pub plain : ℕ → Bool
plain b = not (eqb b quote) && (not (eqb b backslash) && (not (eqb b line_feed) && not (eqb b carriage_return)))

-- how many bytes stand for themselves before one that does not
unfoldable pub plain_run : List ℕ → ℕ
unfolding plain
plain_run [] = 0
plain_run (b ∷ s) = let n = plain_run s in if plain b then suc n else 0

-- ---- by the first byte

pub plain_first : (b : ℕ) (s : List ℕ) → plain b ≡ true → plain_run (b ∷ s) ≡ suc (plain_run s)
unfolding plain_run
plain_first b s h = rw h

pub other_first : (b : ℕ) (s : List ℕ) → plain b ≡ false → plain_run (b ∷ s) ≡ 0
unfolding plain_run
other_first b s h = rw h

pub run_within : (s : List ℕ) → plain_run s ≤ length s
run_within [] = unfold plain_run in omega arith
run_within (b ∷ s) = go (plain b) refl (run_within s)
  where
    go : (x : Bool) → plain b ≡ x → plain_run s ≤ length s → plain_run (b ∷ s) ≤ suc (length s)
    go true e h = omega (arith, plain_first b s e)
    go false e h = omega (arith, other_first b s e)

no_plain_behind : (s : List ℕ) → plain_run s < length s → plain (get_or s (plain_run s) 0) ≡ false
no_plain_behind [] h = absurd (not-suc-le-zero h)
no_plain_behind (b ∷ s) h = go (plain b) refl (no_plain_behind s)
  where
    go : (x : Bool) → plain b ≡ x → (plain_run s < length s → plain (get_or s (plain_run s) 0) ≡ false)
        → plain (get_or (b ∷ s) (plain_run (b ∷ s)) 0) ≡ false
    go true e ih = rw (plain_first b s e) (ih (omega (arith, plain_first b s e)))
    go false e ih = rw (other_first b s e) e

-- ---- by a place i of the text

pub run_over : (s : List ℕ) (i : ℕ) → length s ≤ i → i ≡ i + plain_run (drop i s)
unfolding plain_run
run_over s i h = rw (drop_of_length-le s h) (omega arith)

module _ (s : List ℕ) (i : ℕ) (h : i < length s) where
  pub run_goes_on : plain (get_or s i 0) ≡ true → i + plain_run (drop i s) ≡ i + 1 + plain_run (drop (i + 1) s)
  run_goes_on p = rw (drop_one s i h, plain_first (get_or s i 0) (drop (i + 1) s) p) (omega arith)

  pub run_stops : plain (get_or s i 0) ≡ false → i ≡ i + plain_run (drop i s)
  run_stops p = rw (drop_one s i h, other_first (get_or s i 0) (drop (i + 1) s) p) (omega arith)

-- ---- a byte that is not escaped when written stands for itself

clean_is_plain : (b : ℕ) → class b ≡ 0 → plain b ≡ true
unfolding plain
clean_is_plain b e =
    rw (
      other quote 0x21 (unfold class in refl),
      other backslash 0x5B (unfold class in refl),
      other line_feed 0x6D (unfold class in refl),
      other carriage_return 0x71 (unfold class in refl),
    )
  where
    other : (n c : ℕ) → class n ≡ suc c → eqb b n ≡ false
    other n c h = ne_eqb b n (λ p. let z : class n ≡ 0 = rw p at e in omega (arith, h))

clean_then_plain : (s : List ℕ) → plain_run s ≡ clean_run s + plain_run (drop (clean_run s) s)
unfolding clean_run
clean_then_plain [] = omega arith
clean_then_plain (b ∷ s) = go (eqb (class b) 0) refl (clean_then_plain s)
  where
    go : (x : Bool) → eqb (class b) 0 ≡ x → plain_run s ≡ clean_run s + plain_run (drop (clean_run s) s)
        → plain_run (b ∷ s) ≡ (if x then suc (clean_run s) else 0) + plain_run (drop (if x then suc (clean_run s) else 0) (b ∷ s))
    go true e ih = omega (arith, ih, plain_first b s (clean_is_plain b (eqb-true (class b) 0 e)))
    go false e ih = omega arith

pub run_goes_on_behind : (s : List ℕ) (i e : ℕ) → e ≡ i + clean_run (drop i s)
    → e + plain_run (drop e s) ≡ i + plain_run (drop i s)
run_goes_on_behind s i e h =
    let n = clean_run (drop i s) in
    let d : drop n (drop i s) ≡ drop e s = drop-drop n i s ∙ ap (λ (k : ℕ). drop k s) (sym h) in
    omega (arith, clean_then_plain (drop i s), ap plain_run d)

-- ---- a run is read

plain_front : (b : ℕ) (s : List ℕ) → plain b ≡ true → quoted_front (b ∷ s) ≡ character (b ∷ []) 0
unfolding quoted_front plain
plain_front b s h =
    let q = not (eqb b quote) in
    let k = not (eqb b backslash) in
    let l = not (eqb b line_feed) in
    let r = not (eqb b carriage_return) in
    let h1 : k && (l && r) ≡ true = and_right q (k && (l && r)) h in
    let h2 : l && r ≡ true = and_right k (l && r) h1 in
    rw (
      not_true (eqb b quote) (and_left q (k && (l && r)) h),
      not_true (eqb b backslash) (and_left k (l && r) h1),
      not_true (eqb b line_feed) (and_left l r h2),
      not_true (eqb b carriage_return) (and_right l r h2),
    )

-- the text s says its first n bytes, and then the rest
abbrev Split : List ℕ → ℕ → Type 0
Split s n = characters quoted_front 0 s ≡ prepend (take n s) (characters quoted_front 0 (drop n s))

run_is_read : (s : List ℕ) → Split s (plain_run s)
run_is_read [] = unfold plain_run in sym (prepend_nothing (characters quoted_front 0 []))
run_is_read (b ∷ s) = go (plain b) refl (run_is_read s)
  where
    go : (x : Bool) → plain b ≡ x → Split s (plain_run s) → Split (b ∷ s) (plain_run (b ∷ s))
    go true e ih =
        let n = plain_run s in
        rw (plain_first b s e)
        (character_read quoted_front (b ∷ []) 0 b s (plain_front b s e)
        ∙ ap (prepend (b ∷ [])) ih
        ∙ prepend_twice (b ∷ []) (take n s) (characters quoted_front 0 (drop n s)))
    go false e ih = rw (other_first b s e) (sym (prepend_nothing (characters quoted_front 0 (b ∷ s))))

-- a run from i to e
module _ (s : List ℕ) (i e : ℕ) (run : e ≡ i + plain_run (drop i s)) where
  pub run_read : characters quoted_front 0 (drop i s) ≡ prepend (take (e - i) (drop i s)) (characters quoted_front 0 (drop e s))
  run_read =
      let z : e - i ≡ plain_run (drop i s) = omega arith in
      rw (z, run, ← drop-drop (plain_run (drop i s)) i s) (run_is_read (drop i s))

  pub run_end_within : i ≤ length s → (i ≤ e) × (e ≤ length s)
  run_end_within h = omega (arith, run_within (drop i s), length-drop i s)

  pub run_ends : e < length s → plain (get_or s e 0) ≡ false
  run_ends h =
      rw (run, ← get_or-drop i s (plain_run (drop i s)) 0) (no_plain_behind (drop i s) (omega (arith, length-drop i s)))
