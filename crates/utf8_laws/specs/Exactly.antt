-- A text is UTF-8 exactly if it is the encodings of some scalar values. Encodings may be put one after another; and from a text that
-- passes the check the values are read off, backwards from its end: each is what the bits of its bytes make.
use Rattle.std.specs.Prelude.{◌≡◌, true, ◌&&◌, List, [], ◌∷◌, ◌++◌, ℕ, zero, suc, ◌+◌, ◌*◌, ◌/◌, ◌%◌, ◌≤◌, ◌<◌, leb}
use Rattle.std.proofs.Math.Path.{refl}
use Rattle.std.proofs.Common.{sym, ap, ◌∙◌, arith, lt-ltb, le-leb, leb-true}
use Rattle.base.specs.Bools.{clash, and_left, and_right, and_both}
use Rattle.meaning.specs.Utf8.{scalar, leads, goes_on, fine, utf8_after, utf8, encoded}
use Rattle.meaning.specs.Demand.{encodings, scalars, Utf8Exactly}
use Rattle.utf8_laws.specs.Steps.{cut_is_bad, lead_step, next_step, between_sequences, ascii_passes, leads_two, leads_three, leads_four, Lead, one_byte, two_bytes, three_bytes, four_bytes, lead_range, goes_on_range}
use Rattle.utf8_laws.specs.Sequence.{high, ending, encoded_one, encoded_two, encoded_three, encoded_four, encoded_passes}

pub encodings_are_utf8 : (ns : List ℕ) → scalars ns ≡ true → utf8 (encodings ns) ≡ true
unfolding scalars encodings
encodings_are_utf8 [] h = unfold utf8 in refl
encodings_are_utf8 (n ∷ ns) h =
    encoded_passes n (encodings ns) (and_left (scalar n) (scalars ns) h) ∙ encodings_are_utf8 ns (and_right (scalar n) (scalars ns) h)

-- ---- the values of a text

-- what stands behind a text that is good where k more bytes are to come after the bits n: the value of this sequence, and the others
record Values (k low n : ℕ) (s : List ℕ) : Type 0 where
  first : ℕ
  others : List ℕ
  bits : high k first ≡ n
  good : 0 < k → fine 0 low first ≡ true
  scalar_others : scalars others ≡ true
  text : ending k first ++ encodings others ≡ s

good_value : (low v : ℕ) → fine 0 low v ≡ true → (low ≤ v) × (scalar v ≡ true)
unfolding fine
good_value low v h = (leb-true low v (and_left (leb low v) (scalar v) h), and_right (leb low v) (scalar v) h)

ascii_is_scalar : (b : ℕ) → b < 0x80 → scalar b ≡ true
unfolding scalar
ascii_is_scalar b h = rw (le-leb b 0x10FFFF (omega arith), lt-ltb b 0xD800 (omega arith))

-- between sequences one value more
values_more : (low n v : ℕ) (ns s : List ℕ) → scalar v ≡ true → scalars ns ≡ true → encoded v ++ encodings ns ≡ s → Values 0 low n s
unfolding high ending scalars encodings
values_more low n v ns s h g e = record {
  first = n;
  others = v ∷ ns;
  bits = refl;
  good = λ z. absurd (omega arith);
  scalar_others = and_both (scalar v) (scalars ns) h g;
  text = e;
}

values_none : (low n : ℕ) → Values 0 low n []
unfolding high ending scalars encodings
values_none low n = record { first = n; others = []; bits = refl; good = λ z. absurd (omega arith); scalar_others = refl; text = refl }

-- the encoding of a value begins with the byte that gave its highest bits
begins_two : (b v : ℕ) → 0xC0 ≤ b → b < 0xE0 → 0x80 ≤ v → high 1 v ≡ b % 32 → encoded v ≡ b ∷ ending 1 v
unfolding high
begins_two b v l u g e =
    let lead : 0xC0 + v / 64 ≡ b = omega arith in
    encoded_two v g (omega arith) ∙ ap (λ (x : ℕ). x ∷ ending 1 v) lead

begins_three : (b v : ℕ) → 0xE0 ≤ b → b < 0xF0 → 0x800 ≤ v → high 2 v ≡ b % 16 → encoded v ≡ b ∷ ending 2 v
unfolding high
begins_three b v l u g e =
    let lead : 0xE0 + v / 64 / 64 ≡ b = omega arith in
    encoded_three v g (omega arith) ∙ ap (λ (x : ℕ). x ∷ ending 2 v) lead

begins_four : (b v : ℕ) → 0xF0 ≤ b → b < 0xF8 → 0x10000 ≤ v → high 3 v ≡ b % 8 → encoded v ≡ b ∷ ending 3 v
unfolding high
begins_four b v l u g e =
    let lead : 0xF0 + v / 64 / 64 / 64 ≡ b = omega arith in
    encoded_four v g ∙ ap (λ (x : ℕ). x ∷ ending 3 v) lead

-- a lead byte with the values of the rest
values_lead : (low n b k least own : ℕ) (s : List ℕ) → Values (suc k) least own s
    → ((v : ℕ) → least ≤ v → high (suc k) v ≡ own → encoded v ≡ b ∷ ending (suc k) v) → Values 0 low n (b ∷ s)
values_lead low n b k least own s m e =
    let g = good_value least m.first (m.good (omega arith)) in
    values_more low n m.first m.others (b ∷ s) g.1 m.scalar_others
    (ap (λ (x : List ℕ). x ++ encodings m.others) (e m.first g.0 m.bits) ∙ ap (λ (x : List ℕ). b ∷ x) m.text)

values_ascii : (low n b : ℕ) (s : List ℕ) → b < 0x80 → Values 0 0 0 s → Values 0 low n (b ∷ s)
unfolding ending
values_ascii low n b s a m =
    values_more low n b m.others (b ∷ s) (ascii_is_scalar b a) m.scalar_others
    (ap (λ (x : List ℕ). x ++ encodings m.others) (encoded_one b a) ∙ ap (λ (x : List ℕ). b ∷ x) m.text)

-- a byte that goes on, with the values of the rest
values_next : (k low n b : ℕ) (s : List ℕ) → goes_on b ≡ true → fine k low (n * 64 + b % 64) ≡ true
    → Values k low (n * 64 + b % 64) s → Values (suc k) low n (b ∷ s)
unfolding high ending
values_next k low n b s o f m = record {
  first = m.first;
  others = m.others;
  bits = omega (arith, m.bits);
  good = λ z. good_first k f m.bits m.good;
  scalar_others = m.scalar_others;
  text = ap (λ (x : List ℕ). x ++ encodings m.others) (ap (λ (x : ℕ). x ∷ ending k m.first) byte) ∙ ap (λ (x : List ℕ). b ∷ x) m.text;
}
  where
    byte : 0x80 + high k m.first % 64 ≡ b
    byte = let r = goes_on_range b o in omega (arith, m.bits, r.0, r.1)

    good_first : (k : ℕ) → fine k low (n * 64 + b % 64) ≡ true → high k m.first ≡ n * 64 + b % 64
        → (0 < k → fine 0 low m.first ≡ true) → fine 0 low m.first ≡ true
    good_first zero f e g = ap (λ (x : ℕ). fine 0 low x) e ∙ f
    good_first (suc k) f e g = g (omega arith)

values_of : (k low n : ℕ) (s : List ℕ) → utf8_after k low n s ≡ true → Values k low n s
values_of zero low n [] h = values_none low n
values_of (suc k) low n [] h = clash h (cut_is_bad k low n)
values_of zero low n (b ∷ s) h =
    go (lead_range b (and_left (leads b) _ (sym (lead_step low n b s) ∙ h))) (λ k l w g. values_of k l w s g)
  where
    go : Lead b → ((k l w : ℕ) → utf8_after k l w s ≡ true → Values k l w s) → Values 0 low n (b ∷ s)
    go (one_byte a) ih = values_ascii low n b s a (ih 0 0 0 (between_sequences 0 0 s ∙ sym (ascii_passes low n b s a) ∙ h))
    go (two_bytes l u) ih =
        values_lead low n b 0 0x80 (b % 32) s (ih 1 0x80 (b % 32) (sym (leads_two low n b s l u) ∙ h)) (λ v. begins_two b v l u)
    go (three_bytes l u) ih =
        values_lead low n b 1 0x800 (b % 16) s (ih 2 0x800 (b % 16) (sym (leads_three low n b s l u) ∙ h)) (λ v. begins_three b v l u)
    go (four_bytes l u) ih =
        values_lead low n b 2 0x10000 (b % 8) s (ih 3 0x10000 (b % 8) (sym (leads_four low n b s l u) ∙ h)) (λ v. begins_four b v l u)
values_of (suc k) low n (b ∷ s) h =
    let g = sym (next_step k low n b s) ∙ h in
    let f = and_right (goes_on b) (fine k low (n * 64 + b % 64) && utf8_after k low (n * 64 + b % 64) s) g in
    values_next k low n b s (and_left (goes_on b) _ g) (and_left (fine k low (n * 64 + b % 64)) _ f)
    (values_of k low (n * 64 + b % 64) s (and_right (fine k low (n * 64 + b % 64)) _ f))

scalars_of : (text : List ℕ) → Values 0 0 0 text → (ns : List ℕ) × (scalars ns ≡ true) × (encodings ns ≡ text)
unfolding ending
scalars_of text m = (m.others, m.scalar_others, m.text)

pub utf8_exactly : (text : List ℕ) → Utf8Exactly text
utf8_exactly text = (
  λ h. scalars_of text (values_of 0 0 0 text (between_sequences 0 0 text ∙ h)),
  λ p. ap utf8 (sym p.2) ∙ encodings_are_utf8 p.0 p.1,
)
