-- How many bytes at the front of a text stand for themselves. That run is written as it is, and behind it is a byte to be escaped,
-- or the end.
use Rattle.std.specs.Prelude.{◌≡◌, refl, Bool, true, false, not, cond, Some, None, ltb, List, [], ◌∷◌, ◌++◌, ℕ, suc, ◌+◌, ◌-◌, ◌≤◌, ◌<◌, eqb, length, take, drop, get_or, if◌then◌else◌}
use Rattle.std.specs.List.{position, position_or_len}
use Rattle.std.specs.Option.{unwrap_or}
use Rattle.std.proofs.Common.{ap, arith, drop_of_length-le, length-drop, drop-drop, get_or-drop, eqb-true, ne_eqb, lt-ltb, le-ltb}
use Rattle.std.proofs.Math.Decide.{dec_lt}
use Rattle.std.proofs.lemmas.Bool.{eqb-false}
use Rattle.std.proofs.lemmas.List.Recursion.{is_position_or_len}
use Rattle.meaning.specs.Quoted.{class, escaped, body}
use Rattle.pen.specs.Lists.{drop_one}
use Rattle.quoted.specs.Escapes.{stands_for_itself}

unfoldable pub clean_run : List ℕ → ℕ
unfolding class
clean_run [] = 0
clean_run (b ∷ s) = if eqb (class b) 0 then suc (clean_run s) else 0

pub run_length_lem : (s : List ℕ) → clean_run s ≤ length s
unfolding clean_run
run_length_lem [] = omega arith
run_length_lem (b ∷ s) = go (eqb (class b) 0) (run_length_lem s)
  where
    go : (x : Bool) → clean_run s ≤ length s → (if x then suc (clean_run s) else 0) ≤ suc (length s)
    go true h = omega arith
    go false h = omega arith

at_front : (x : Bool) (n : ℕ) → (if x then suc n else 0) ≡ cond (not x) 0 (1 + n)
at_front true n = omega arith
at_front false n = refl

-- that many bytes are before the first of another class
run_is_first : (s : List ℕ) → clean_run s ≡ position_or_len (λ b. not (eqb (class b) 0)) s
unfolding clean_run
run_is_first s = is_position_or_len clean_run (λ b. not (eqb (class b) 0)) refl (λ b t. at_front (eqb (class b) 0) (clean_run t)) s

pub run_from_position : (s : List ℕ) → unwrap_or (position (λ b. not (eqb (class b) 0)) s) (length s) ≡ clean_run s
run_from_position s = rw (← run_is_first s) (go (dec_lt (clean_run s) (length s)))
  where
    go : Dec (clean_run s < length s) → unwrap_or (cond (ltb (clean_run s) (length s)) (Some (clean_run s)) None) (length s) ≡ clean_run s
    go (yes h) = rw (lt-ltb (clean_run s) (length s) h) refl
    go (no h) = rw (le-ltb (clean_run s) (length s) (omega arith)) (omega (arith, run_length_lem s))

-- ---- looking for the end of the run from place i on, a byte of class c at a time

pub run_goes_on : (s : List ℕ) (i c : ℕ) → i < length s → c ≡ class (get_or s i 0) → c ≡ 0
    → i + 1 + clean_run (drop (i + 1) s) ≡ i + clean_run (drop i s)
unfolding clean_run
run_goes_on s i c h e z = rw (drop_one s i h, ← e, z) (omega arith)

pub run_stops : (s : List ℕ) (i c : ℕ) → i < length s → c ≡ class (get_or s i 0) → (c ≡ 0 → ⊥) → i ≡ i + clean_run (drop i s)
unfolding clean_run
run_stops s i c h e n = rw (drop_one s i h, ← e, ne_eqb c 0 n) (omega arith)

pub run_over : (s : List ℕ) (i : ℕ) → length s ≤ i → i ≡ i + clean_run (drop i s)
unfolding clean_run
run_over s i h = rw (drop_of_length-le s h) (omega arith)

-- ---- what the end j of the run from i on says

pub run_within : (s : List ℕ) (i j : ℕ) → j ≡ i + clean_run (drop i s) → i ≤ length s → (i ≤ j) × (j ≤ length s)
run_within s i j e h = omega (arith, run_length_lem (drop i s), length-drop i s)

-- so that a loop that goes on behind j comes to an end
pub less_left : (s : List ℕ) (i j : ℕ) → j ≡ i + clean_run (drop i s) → j < length s → length s - (j + 1) < length s - i
less_left s i j e h = omega arith

ends : (s : List ℕ) → clean_run s < length s → class (get_or s (clean_run s) 0) ≡ 0 → ⊥
unfolding clean_run
ends [] h z = omega arith
ends (b ∷ s) h z = go (eqb (class b) 0) refl h z (ends s)
  where
    go : (x : Bool) → eqb (class b) 0 ≡ x → (if x then suc (clean_run s) else 0) < suc (length s)
        → class (get_or (b ∷ s) (if x then suc (clean_run s) else 0) 0) ≡ 0
        → (clean_run s < length s → class (get_or s (clean_run s) 0) ≡ 0 → ⊥) → ⊥
    go true e h z ih = ih (omega arith) z
    go false e h z ih = eqb-false (class b) 0 e z

pub run_ends : (s : List ℕ) (i j : ℕ) → j ≡ i + clean_run (drop i s) → j < length s → class (get_or s j 0) ≡ 0 → ⊥
run_ends s i j e h z =
    ends (drop i s) (omega (arith, length-drop i s)) (rw (get_or-drop i s (clean_run (drop i s)) 0, ← e) z)

-- ---- what is written for the bytes from i on: the run up to its end j, an escape, and so on

clean_front : (s : List ℕ) → body s ≡ take (clean_run s) s ++ body (drop (clean_run s) s)
unfolding clean_run body
clean_front [] = refl
clean_front (b ∷ s) = go (eqb (class b) 0) refl (clean_front s)
  where
    go : (x : Bool) → eqb (class b) 0 ≡ x → body s ≡ take (clean_run s) s ++ body (drop (clean_run s) s)
        → escaped b ++ body s
        ≡ take (if x then suc (clean_run s) else 0) (b ∷ s) ++ body (drop (if x then suc (clean_run s) else 0) (b ∷ s))
    go true e ih = rw (stands_for_itself b (eqb-true (class b) 0 e)) (ap (λ (t : List ℕ). b ∷ t) ih)
    go false e ih = refl

pub body_run : (s : List ℕ) (i j : ℕ) → j ≡ i + clean_run (drop i s) → body (drop i s) ≡ take (j - i) (drop i s) ++ body (drop j s)
body_run s i j e =
    let k : j - i ≡ clean_run (drop i s) = omega arith in
    rw (k, e, ← drop-drop (clean_run (drop i s)) i s) (clean_front (drop i s))

pub body_escape : (s : List ℕ) (j : ℕ) → j < length s → body (drop j s) ≡ escaped (get_or s j 0) ++ body (drop (j + 1) s)
unfolding body
body_escape s j h = rw (drop_one s j h)

pub body_over : (s : List ℕ) (j : ℕ) → length s ≤ j → body (drop j s) ≡ []
unfolding body
body_over s j h = rw (drop_of_length-le s h)
