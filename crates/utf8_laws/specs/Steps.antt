-- What one byte does to the check for UTF-8, by the range of the byte: how many leading ones it has decides everything.
use Rattle.std.specs.Prelude.{◌≡◌, refl, true, false, ◌&&◌, List, [], ◌∷◌, ℕ, suc, ◌+◌, ◌-◌, ◌*◌, ◌%◌, ◌^◌, ◌≤◌, ◌<◌}
use Rattle.std.proofs.Common.{sym, ap, ◌∙◌, arith, lt-ltb, le-ltb}
use Rattle.std.proofs.Math.Bool.{not}
use Rattle.std.proofs.Math.Decide.{dec_lt}
use Rattle.std.proofs.Math.Dec.{eqb, leb}
use Rattle.base.specs.Bools.{clash}
use Rattle.meaning.specs.Utf8.{leading_ones, leads, goes_on, follow, own_bits, least, fine, utf8_after, utf8}

-- ---- the clauses of the check

pub whole_ends : (low n : ℕ) → utf8_after 0 low n [] ≡ true
unfolding utf8_after
whole_ends low n = refl

pub cut_is_bad : (k low n : ℕ) → utf8_after (suc k) low n [] ≡ false
unfolding utf8_after
cut_is_bad k low n = refl

pub lead_step : (low n b : ℕ) (s : List ℕ)
    → utf8_after 0 low n (b ∷ s) ≡ leads b && utf8_after (follow b) (least (follow b)) (own_bits b) s
unfolding utf8_after
lead_step low n b s = refl

pub next_step : (k low n b : ℕ) (s : List ℕ)
    → utf8_after (suc k) low n (b ∷ s) ≡ goes_on b && (fine k low (n * 64 + b % 64) && utf8_after k low (n * 64 + b % 64) s)
unfolding utf8_after
next_step k low n b s = refl

-- between sequences the least value and the value so far do not matter
pub between_sequences : (low n : ℕ) (s : List ℕ) → utf8_after 0 low n s ≡ utf8 s
unfolding utf8
between_sequences low n [] = refl
between_sequences low n (b ∷ s) = refl

-- ---- the ranges of bytes

pub ones_none : (b : ℕ) → b < 0x80 → leading_ones b ≡ 0
unfolding leading_ones
ones_none b h = rw (lt-ltb b 0x80 h)

pub ones_one : (b : ℕ) → 0x80 ≤ b → b < 0xC0 → leading_ones b ≡ 1
unfolding leading_ones
ones_one b l h = rw (le-ltb b 0x80 l, lt-ltb b 0xC0 h)

pub ones_two : (b : ℕ) → 0xC0 ≤ b → b < 0xE0 → leading_ones b ≡ 2
unfolding leading_ones
ones_two b l h = rw (le-ltb b 0x80 (omega arith), le-ltb b 0xC0 l, lt-ltb b 0xE0 h)

pub ones_three : (b : ℕ) → 0xE0 ≤ b → b < 0xF0 → leading_ones b ≡ 3
unfolding leading_ones
ones_three b l h = rw (le-ltb b 0x80 (omega arith), le-ltb b 0xC0 (omega arith), le-ltb b 0xE0 l, lt-ltb b 0xF0 h)

pub ones_four : (b : ℕ) → 0xF0 ≤ b → b < 0xF8 → leading_ones b ≡ 4
unfolding leading_ones
ones_four b l h =
    rw (le-ltb b 0x80 (omega arith), le-ltb b 0xC0 (omega arith), le-ltb b 0xE0 (omega arith), le-ltb b 0xF0 l, lt-ltb b 0xF8 h)

pub ones_five : (b : ℕ) → 0xF8 ≤ b → leading_ones b ≡ 5
unfolding leading_ones
ones_five b l =
    rw (
      le-ltb b 0x80 (omega arith),
      le-ltb b 0xC0 (omega arith),
      le-ltb b 0xE0 (omega arith),
      le-ltb b 0xF0 (omega arith),
      le-ltb b 0xF8 l,
    )

-- ---- a byte between sequences, by its range

by_ones : (low n b j : ℕ) (s : List ℕ) → leading_ones b ≡ j
    → utf8_after 0 low n (b ∷ s) ≡ (not (eqb j 1) && leb j 4) && utf8_after (j - 1) (least (j - 1)) (b % 2 ^ (7 - j)) s
unfolding utf8_after
by_ones low n b j s e = ap (λ (i : ℕ). (not (eqb i 1) && leb i 4) && utf8_after (i - 1) (least (i - 1)) (b % 2 ^ (7 - i)) s) e

pub ascii_passes : (low n b : ℕ) (s : List ℕ) → b < 0x80 → utf8_after 0 low n (b ∷ s) ≡ utf8 s
ascii_passes low n b s h = by_ones low n b 0 s (ones_none b h) ∙ between_sequences (least 0) (b % 2 ^ 7) s

pub leads_two : (low n b : ℕ) (s : List ℕ) → 0xC0 ≤ b → b < 0xE0 → utf8_after 0 low n (b ∷ s) ≡ utf8_after 1 0x80 (b % 32) s
unfolding least
leads_two low n b s l h = by_ones low n b 2 s (ones_two b l h)

pub leads_three : (low n b : ℕ) (s : List ℕ) → 0xE0 ≤ b → b < 0xF0 → utf8_after 0 low n (b ∷ s) ≡ utf8_after 2 0x800 (b % 16) s
unfolding least
leads_three low n b s l h = by_ones low n b 3 s (ones_three b l h)

pub leads_four : (low n b : ℕ) (s : List ℕ) → 0xF0 ≤ b → b < 0xF8 → utf8_after 0 low n (b ∷ s) ≡ utf8_after 3 0x10000 (b % 8) s
unfolding least
leads_four low n b s l h = by_ones low n b 4 s (ones_four b l h)

-- the ranges of lead bytes
pub data Lead (b : ℕ) : Type 0 where
  one_byte : b < 0x80 → Lead b
  two_bytes : 0xC0 ≤ b → b < 0xE0 → Lead b
  three_bytes : 0xE0 ≤ b → b < 0xF0 → Lead b
  four_bytes : 0xF0 ≤ b → b < 0xF8 → Lead b

pub lead_range : (b : ℕ) → leads b ≡ true → Lead b
lead_range b h = go (dec_lt b 0x80) (dec_lt b 0xC0) (dec_lt b 0xE0) (dec_lt b 0xF0) (dec_lt b 0xF8)
  where
    by : (j : ℕ) → leading_ones b ≡ j → not (eqb j 1) && leb j 4 ≡ true
    by j e = unfold leads in (ap (λ (i : ℕ). not (eqb i 1) && leb i 4) (sym e) ∙ h)

    go : Dec (b < 0x80) → Dec (b < 0xC0) → Dec (b < 0xE0) → Dec (b < 0xF0) → Dec (b < 0xF8) → Lead b
    go (yes p) d e f g = one_byte p
    go (no p) (yes q) e f g = clash (by 1 (ones_one b (omega arith) q)) refl
    go (no p) (no q) (yes r) f g = two_bytes (omega arith) r
    go (no p) (no q) (no r) (yes t) g = three_bytes (omega arith) t
    go (no p) (no q) (no r) (no t) (yes u) = four_bytes (omega arith) u
    go (no p) (no q) (no r) (no t) (no u) = clash (by 5 (ones_five b (omega arith))) refl

-- ---- a byte that goes on

pub goes_on_lem : (b : ℕ) → 0x80 ≤ b → b < 0xC0 → goes_on b ≡ true
unfolding goes_on
goes_on_lem b l h = ap (λ (i : ℕ). eqb i 1) (ones_one b l h)

pub goes_on_range : (b : ℕ) → goes_on b ≡ true → (0x80 ≤ b) × (b < 0xC0)
goes_on_range b h = go (dec_lt b 0x80) (dec_lt b 0xC0)
  where
    by : (j : ℕ) → leading_ones b ≡ j → eqb j 1 ≡ true
    by j e = unfold goes_on in (ap (λ (i : ℕ). eqb i 1) (sym e) ∙ h)

    other : Dec (b < 0xE0) → Dec (b < 0xF0) → Dec (b < 0xF8) → 0xC0 ≤ b → ⊥
    other (yes p) e f l = clash (by 2 (ones_two b l p)) refl
    other (no p) (yes q) f l = clash (by 3 (ones_three b (omega arith) q)) refl
    other (no p) (no q) (yes r) l = clash (by 4 (ones_four b (omega arith) r)) refl
    other (no p) (no q) (no r) l = clash (by 5 (ones_five b (omega arith))) refl

    go : Dec (b < 0x80) → Dec (b < 0xC0) → (0x80 ≤ b) × (b < 0xC0)
    go (yes p) d = clash (by 0 (ones_none b p)) refl
    go (no p) (yes q) = (omega arith, q)
    go (no p) (no q) = absurd (other (dec_lt b 0xE0) (dec_lt b 0xF0) (dec_lt b 0xF8) (omega arith))
