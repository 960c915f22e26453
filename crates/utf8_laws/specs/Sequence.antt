-- The encoding of a value is a lead byte with its highest bits and then, six bits each, the bytes that go on with it: read, they make
-- that value again. So the encoding of a scalar value may stand in front of any text.
use Rattle.std.specs.Prelude.{◌≡◌, refl, true, ◌||◌, List, [], ◌∷◌, ◌++◌, ℕ, zero, suc, ◌+◌, ◌*◌, ◌/◌, ◌%◌, ◌≤◌, ◌<◌, ltb, leb}
use Rattle.std.proofs.Common.{sym, ap, ◌∙◌, arith, lt-ltb, le-ltb, le-leb, leb-true}
use Rattle.std.proofs.Math.Decide.{dec_lt}
use Rattle.base.specs.Bools.{and_left, and_both}
use Rattle.meaning.specs.Utf8.{scalar, fine, utf8_after, utf8, encoded}
use Rattle.utf8_laws.specs.Steps.{next_step, between_sequences, ascii_passes, leads_two, leads_three, leads_four, goes_on_lem}

-- a value without the bits of its last k bytes, and these bytes
unfoldable pub high : ℕ → ℕ → ℕ
high zero v = v
high (suc k) v = high k v / 64

unfoldable pub ending : ℕ → ℕ → List ℕ
unfolding high
ending zero v = []
ending (suc k) v = (0x80 + high k v % 64) ∷ ending k v

-- ---- the encoding by the ranges of values

pub encoded_one : (v : ℕ) → v < 0x80 → encoded v ≡ v ∷ []
unfolding encoded
encoded_one v h = rw (lt-ltb v 0x80 h)

pub encoded_two : (v : ℕ) → 0x80 ≤ v → v < 0x800 → encoded v ≡ (0xC0 + high 1 v) ∷ ending 1 v
unfolding encoded ending
encoded_two v l h = rw (le-ltb v 0x80 l, lt-ltb v 0x800 h)

pub encoded_three : (v : ℕ) → 0x800 ≤ v → v < 0x10000 → encoded v ≡ (0xE0 + high 2 v) ∷ ending 2 v
unfolding encoded ending
encoded_three v l h =
    let q : v / 4096 ≡ v / 64 / 64 = omega arith in
    rw (le-ltb v 0x80 (omega arith), le-ltb v 0x800 l, lt-ltb v 0x10000 h, q)

pub encoded_four : (v : ℕ) → 0x10000 ≤ v → encoded v ≡ (0xF0 + high 3 v) ∷ ending 3 v
unfolding encoded ending
encoded_four v l =
    let p : v / 4096 ≡ v / 64 / 64 = omega arith in
    let q : v / 262144 ≡ v / 64 / 64 / 64 = omega arith in
    rw (le-ltb v 0x80 (omega arith), le-ltb v 0x800 (omega arith), le-ltb v 0x10000 l, p, q)

-- ---- read

pub scalar_bound : (v : ℕ) → scalar v ≡ true → v ≤ 0x10FFFF
unfolding scalar
scalar_bound v h = leb-true v 0x10FFFF (and_left (leb v 0x10FFFF) (ltb v 0xD800 || ltb 0xDFFF v) h)

-- a value that is not overlong, and scalar
pub fine_value : (low v : ℕ) → low ≤ v → scalar v ≡ true → fine 0 low v ≡ true
unfolding fine
fine_value low v l h = and_both (leb low v) (scalar v) (le-leb low v l) h

fine_on_the_way : (k low v : ℕ) → fine 0 low v ≡ true → fine k low (high k v) ≡ true
unfolding fine high
fine_on_the_way zero low v h = h
fine_on_the_way (suc k) low v h = refl

-- one byte that goes on, read after the bits before it
six_bits_pass : (k low w : ℕ) (s : List ℕ) → fine k low w ≡ true
    → utf8_after (suc k) low (w / 64) ((0x80 + w % 64) ∷ s) ≡ utf8_after k low w s
six_bits_pass k low w s h =
    let value : w / 64 * 64 + (0x80 + w % 64) % 64 ≡ w = omega arith in
    next_step k low (w / 64) (0x80 + w % 64) s ∙ rw (value, goes_on_lem (0x80 + w % 64) (omega arith) (omega arith), h)

pub ending_passes : (k low v : ℕ) (t : List ℕ) → fine 0 low v ≡ true → utf8_after k low (high k v) (ending k v ++ t) ≡ utf8 t
unfolding high ending
ending_passes zero low v t h = between_sequences low v t
ending_passes (suc k) low v t h =
    six_bits_pass k low (high k v) (ending k v ++ t) (fine_on_the_way k low v h) ∙ ending_passes k low v t h

pub encoded_passes : (v : ℕ) (t : List ℕ) → scalar v ≡ true → utf8 (encoded v ++ t) ≡ utf8 t
encoded_passes v t h =
    sym (between_sequences 0 0 (encoded v ++ t)) ∙ go (dec_lt v 0x80) (dec_lt v 0x800) (dec_lt v 0x10000)
  where
    by : (k low own b : ℕ) → encoded v ≡ b ∷ ending k v → own ≡ high k v → low ≤ v
        → utf8_after 0 0 0 (b ∷ (ending k v ++ t)) ≡ utf8_after k low own (ending k v ++ t)
        → utf8_after 0 0 0 (encoded v ++ t) ≡ utf8 t
    by k low own b e o l p =
        ap (λ (x : List ℕ). utf8_after 0 0 0 (x ++ t)) e ∙ p ∙ ap (λ (x : ℕ). utf8_after k low x (ending k v ++ t)) o
        ∙ ending_passes k low v t (fine_value low v l h)

    go : Dec (v < 0x80) → Dec (v < 0x800) → Dec (v < 0x10000) → utf8_after 0 0 0 (encoded v ++ t) ≡ utf8 t
    go (yes a) d e = ap (λ (x : List ℕ). utf8_after 0 0 0 (x ++ t)) (encoded_one v a) ∙ ascii_passes 0 0 v t a
    go (no a) (yes b) e =
        let lead = 0xC0 + high 1 v in
        by 1 0x80 (lead % 32) lead (encoded_two v (omega arith) b) (unfold high in omega arith) (omega arith)
        (leads_two 0 0 lead (ending 1 v ++ t) (omega arith) (unfold high in omega arith))
    go (no a) (no b) (yes c) =
        let lead = 0xE0 + high 2 v in
        by 2 0x800 (lead % 16) lead (encoded_three v (omega arith) c) (unfold high in omega arith) (omega arith)
        (leads_three 0 0 lead (ending 2 v ++ t) (omega arith) (unfold high in omega arith))
    go (no a) (no b) (no c) =
        let lead = 0xF0 + high 3 v in
        let top = scalar_bound v h in
        by 3 0x10000 (lead % 8) lead (encoded_four v (omega arith)) (unfold high in omega arith) (omega arith)
        (leads_four 0 0 lead (ending 3 v ++ t) (omega arith) (unfold high in omega arith))
