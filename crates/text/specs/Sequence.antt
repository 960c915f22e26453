-- The sequence that a text begins with, checked whole by its lead byte. A text that is not empty is UTF-8 exactly if it begins with
-- a good sequence and the rest is UTF-8: the check a byte at a time passes the same bytes, and then stands between sequences again.
use Rattle.std.specs.Prelude.{◌≡◌, refl, Bool, true, false, not, ◌&&◌, List, [], ◌∷◌, ℕ, zero, suc, ◌+◌, ◌-◌, ◌*◌, ◌%◌, ◌^◌, ◌≤◌, ◌<◌, min, eqb, leb, drop, if◌then◌else◌}
use Rattle.std.proofs.Common.{sym, ap, ◌∙◌, arith, lt-ltb, le-leb}
use Rattle.std.proofs.Math.Bool.{and_assoc}
use Rattle.std.proofs.Math.Decide.{dec_lt, ℕ_discrete}
use Rattle.meaning.specs.Utf8.{leading_ones, leads, goes_on, follow, own_bits, least, fine, utf8_after, utf8}
use Rattle.utf8_laws.specs.Steps.{cut_is_bad, lead_step, next_step, between_sequences, ones_none, ones_one, ones_two, ones_three, ones_four, ones_five, leads_two, leads_three, leads_four}
use Rattle.utf8_laws.specs.Append.{ascii_first}

-- k bytes that go on stand there, and the value that they make after the bits n is good
unfoldable pub good_end : ℕ → ℕ → ℕ → List ℕ → Bool
unfolding goes_on fine
good_end zero low n s = fine 0 low n
good_end (suc k) low n [] = false
good_end (suc k) low n (b ∷ s) = goes_on b && good_end k low (n * 64 + b % 64) s

-- how many bytes the whole, good sequence has that a text begins with; 0 where it begins with none
unfoldable pub sequence : List ℕ → ℕ
unfolding leads follow own_bits least good_end
sequence [] = 0
sequence (b ∷ s) = if leads b && good_end (follow b) (least (follow b)) (own_bits b) s then follow b + 1 else 0

-- ---- by the leading ones of the lead byte

by_ones : (b j : ℕ) (s : List ℕ) → leading_ones b ≡ j
    → sequence (b ∷ s) ≡ (if (not (eqb j 1) && leb j 4) && good_end (j - 1) (least (j - 1)) (b % 2 ^ (7 - j)) s then j - 1 + 1 else 0)
unfolding sequence
by_ones b j s e =
    ap (λ (i : ℕ). if (not (eqb i 1) && leb i 4) && good_end (i - 1) (least (i - 1)) (b % 2 ^ (7 - i)) s then i - 1 + 1 else 0) e

ascii_is_fine : (n : ℕ) → n < 0x80 → fine 0 0 n ≡ true
unfolding fine
ascii_is_fine n h = rw (le-leb 0 n (omega arith), le-leb n 0x10FFFF (omega arith), lt-ltb n 0xD800 (omega arith))

pub one_byte_lem : (b : ℕ) (s : List ℕ) → leading_ones b ≡ 0 → sequence (b ∷ s) ≡ 1
unfolding good_end least
one_byte_lem b s e = by_ones b 0 s e ∙ ap (λ (x : Bool). if x then 1 else 0) (ascii_is_fine (b % 2 ^ 7) (omega arith))

pub two_bytes_lem : (b : ℕ) (s : List ℕ) → leading_ones b ≡ 2 → sequence (b ∷ s) ≡ (if good_end 1 0x80 (b % 32) s then 2 else 0)
unfolding least
two_bytes_lem b s e = by_ones b 2 s e

pub three_bytes_lem : (b : ℕ) (s : List ℕ) → leading_ones b ≡ 3 → sequence (b ∷ s) ≡ (if good_end 2 0x800 (b % 16) s then 3 else 0)
unfolding least
three_bytes_lem b s e = by_ones b 3 s e

pub four_bytes_lem : (b : ℕ) (s : List ℕ) → leading_ones b ≡ 4 → sequence (b ∷ s) ≡ (if good_end 3 0x10000 (b % 8) s then 4 else 0)
unfolding least
four_bytes_lem b s e = by_ones b 4 s e

leads_nothing : (b j : ℕ) (s : List ℕ) → leading_ones b ≡ j → not (eqb j 1) && leb j 4 ≡ false → sequence (b ∷ s) ≡ 0
leads_nothing b j s e h =
    by_ones b j s e
    ∙ ap (λ (x : Bool). if x && good_end (j - 1) (least (j - 1)) (b % 2 ^ (7 - j)) s then j - 1 + 1 else 0) h

pub other_bytes_lead_nothing : (b ones : ℕ) (s : List ℕ) → min ones 5 ≡ leading_ones b
    → (ones ≡ 0 → ⊥) → (ones ≡ 2 → ⊥) → (ones ≡ 3 → ⊥) → (ones ≡ 4 → ⊥) → sequence (b ∷ s) ≡ 0
other_bytes_lead_nothing b ones s e n0 n2 n3 n4 = go (ℕ_discrete ones 1)
  where
    go : Dec (ones ≡ 1) → sequence (b ∷ s) ≡ 0
    go (yes p) = leads_nothing b 1 s (omega arith) refl
    go (no p) = leads_nothing b 5 s (omega arith) refl

-- ---- a sequence and the check a byte at a time

pub end_passes : (k low n : ℕ) (s : List ℕ) → utf8_after (suc k) low n s ≡ good_end (suc k) low n s && utf8 (drop (suc k) s)
unfolding good_end fine
end_passes k low n [] = cut_is_bad k low n
end_passes zero low n (b ∷ s) =
    let v = n * 64 + b % 64 in
    next_step 0 low n b s ∙ ap (λ (x : Bool). goes_on b && (fine 0 low v && x)) (between_sequences low v s)
    ∙ sym (and_assoc (goes_on b) (fine 0 low v) (utf8 s))
end_passes (suc k) low n (b ∷ s) =
    let v = n * 64 + b % 64 in
    next_step (suc k) low n b s ∙ ap (λ (x : Bool). goes_on b && x) (end_passes k low v s)
    ∙ sym (and_assoc (goes_on b) (good_end (suc k) low v s) (utf8 (drop (suc k) s)))

leads_by : (b j : ℕ) → leading_ones b ≡ j → leads b ≡ not (eqb j 1) && leb j 4
unfolding leads
leads_by b j e = ap (λ (i : ℕ). not (eqb i 1) && leb i 4) e

-- what a text begins with: a lead byte and some more, which are good or bad
record Begins (b : ℕ) (s : List ℕ) : Type 0 where
  more : ℕ
  few : more ≤ 3
  good : Bool
  count : sequence (b ∷ s) ≡ (if good then suc more else 0)
  text : utf8 (b ∷ s) ≡ good && utf8 (drop more s)

begins : (b : ℕ) (s : List ℕ) → Begins b s
begins b s = go (dec_lt b 0x80) (dec_lt b 0xC0) (dec_lt b 0xE0) (dec_lt b 0xF0) (dec_lt b 0xF8)
  where
    with : (k low own : ℕ) → suc k ≤ 3 → sequence (b ∷ s) ≡ (if good_end (suc k) low own s then suc (suc k) else 0)
        → utf8_after 0 0 0 (b ∷ s) ≡ utf8_after (suc k) low own s → Begins b s
    with k low own f c p = record {
      more = suc k;
      few = f;
      good = good_end (suc k) low own s;
      count = c;
      text = sym (between_sequences 0 0 (b ∷ s)) ∙ p ∙ end_passes k low own s;
    }

    none : (j : ℕ) → leading_ones b ≡ j → not (eqb j 1) && leb j 4 ≡ false → Begins b s
    none j e h = record {
      more = 0;
      few = omega arith;
      good = false;
      count = leads_nothing b j s e h;
      text = sym (between_sequences 0 0 (b ∷ s)) ∙ lead_step 0 0 b s
          ∙ ap (λ (x : Bool). x && utf8_after (follow b) (least (follow b)) (own_bits b) s) (leads_by b j e ∙ h);
    }

    go : Dec (b < 0x80) → Dec (b < 0xC0) → Dec (b < 0xE0) → Dec (b < 0xF0) → Dec (b < 0xF8) → Begins b s
    go (yes p) d e f g = record { more = 0; few = omega arith; good = true; count = one_byte_lem b s (ones_none b p); text = ascii_first b s p }
    go (no p) (yes q) e f g = none 1 (ones_one b (omega arith) q) refl
    go (no p) (no q) (yes r) f g =
        with 0 0x80 (b % 32) (omega arith) (two_bytes_lem b s (ones_two b (omega arith) r)) (leads_two 0 0 b s (omega arith) r)
    go (no p) (no q) (no r) (yes t) g =
        with 1 0x800 (b % 16) (omega arith) (three_bytes_lem b s (ones_three b (omega arith) t)) (leads_three 0 0 b s (omega arith) t)
    go (no p) (no q) (no r) (no t) (yes u) =
        with 2 0x10000 (b % 8) (omega arith) (four_bytes_lem b s (ones_four b (omega arith) u)) (leads_four 0 0 b s (omega arith) u)
    go (no p) (no q) (no r) (no t) (no u) = none 5 (ones_five b (omega arith)) refl

pub no_sequence_is_bad : (b : ℕ) (s : List ℕ) → sequence (b ∷ s) ≡ 0 → utf8 (b ∷ s) ≡ false
no_sequence_is_bad b s z = go m.good m.count m.text
  where
    m : Begins b s
    m = begins b s

    go : (x : Bool) → sequence (b ∷ s) ≡ (if x then suc m.more else 0) → utf8 (b ∷ s) ≡ x && utf8 (drop m.more s)
        → utf8 (b ∷ s) ≡ false
    go true e t = absurd (omega arith)
    go false e t = t

pub sequence_passes : (b : ℕ) (s : List ℕ) → 0 < sequence (b ∷ s) → utf8 (b ∷ s) ≡ utf8 (drop (sequence (b ∷ s)) (b ∷ s))
sequence_passes b s h = go m.good m.count m.text
  where
    m : Begins b s
    m = begins b s

    go : (x : Bool) → sequence (b ∷ s) ≡ (if x then suc m.more else 0) → utf8 (b ∷ s) ≡ x && utf8 (drop m.more s)
        → utf8 (b ∷ s) ≡ utf8 (drop (sequence (b ∷ s)) (b ∷ s))
    go true e t = t ∙ ap (λ (n : ℕ). utf8 (drop n (b ∷ s))) (sym e)
    go false e t = absurd (omega arith)

pub sequence_is_short : (b : ℕ) (s : List ℕ) → sequence (b ∷ s) ≤ 4
sequence_is_short b s = go m.good m.count
  where
    m : Begins b s
    m = begins b s

    go : (x : Bool) → sequence (b ∷ s) ≡ (if x then suc m.more else 0) → sequence (b ∷ s) ≤ 4
    go true e = omega (arith, m.few)
    go false e = omega arith
