-- Texts of whole sequences may be put one after another, since the check is in its first state between them; ASCII is such a text.
use Rattle.std.specs.Prelude.{◌≡◌, refl, Bool, true, ◌&&◌, List, [], ◌∷◌, ◌++◌, ℕ, zero, suc, ◌+◌, ◌*◌, ◌%◌, ◌<◌, ltb}
use Rattle.std.proofs.Common.{sym, ap, ◌∙◌, arith, ltb-true}
use Rattle.base.specs.Bools.{clash, and_left, and_right}
use Rattle.meaning.specs.Utf8.{leads, goes_on, follow, own_bits, least, fine, utf8_after, utf8}
use Rattle.utf8_laws.specs.Steps.{cut_is_bad, lead_step, next_step, between_sequences, ascii_passes, goes_on_range}

-- the state that a byte of a good text leaves: the rest is good in it, and it is the same whatever the rest is
pub record Left (k low n b : ℕ) (s : List ℕ) : Type 0 where
  pub more : ℕ
  pub lowest : ℕ
  pub value : ℕ
  pub good : utf8_after more lowest value s ≡ true
  pub same : (t : List ℕ) → utf8_after k low n (b ∷ t) ≡ utf8_after more lowest value t

pub left_by : (k low n b : ℕ) (s : List ℕ) → utf8_after k low n (b ∷ s) ≡ true → Left k low n b s
left_by zero low n b s h = record {
  more = follow b;
  lowest = least (follow b);
  value = own_bits b;
  good = and_right (leads b) _ g;
  same = λ t. lead_step low n b t ∙ ap (λ (x : Bool). x && utf8_after (follow b) (least (follow b)) (own_bits b) t) (and_left (leads b) _ g);
}
  where
    g : leads b && utf8_after (follow b) (least (follow b)) (own_bits b) s ≡ true
    g = sym (lead_step low n b s) ∙ h
left_by (suc k) low n b s h = record {
  more = k;
  lowest = low;
  value = n * 64 + b % 64;
  good = and_right (fine k low (n * 64 + b % 64)) _ f;
  same = λ t. next_step k low n b t ∙ rw (and_left (goes_on b) _ g, and_left (fine k low (n * 64 + b % 64)) _ f);
}
  where
    g : goes_on b && (fine k low (n * 64 + b % 64) && utf8_after k low (n * 64 + b % 64) s) ≡ true
    g = sym (next_step k low n b s) ∙ h

    f : fine k low (n * 64 + b % 64) && utf8_after k low (n * 64 + b % 64) s ≡ true
    f = and_right (goes_on b) _ g

-- a good text ends between sequences
pub append_after : (k low n : ℕ) (a t : List ℕ) → utf8_after k low n a ≡ true → utf8_after k low n (a ++ t) ≡ utf8 t
append_after zero low n [] t h = between_sequences low n t
append_after (suc k) low n [] t h = clash h (cut_is_bad k low n)
append_after k low n (b ∷ a) t h =
    let l = left_by k low n b a h in
    l.same (a ++ t) ∙ append_after l.more l.lowest l.value a t l.good

pub utf8_append : (a t : List ℕ) → utf8 a ≡ true → utf8 (a ++ t) ≡ utf8 t
unfolding utf8
utf8_append a t h = append_after 0 0 0 a t h

-- ---- ASCII

pub ascii_first : (b : ℕ) (t : List ℕ) → b < 0x80 → utf8 (b ∷ t) ≡ utf8 t
unfolding utf8
ascii_first b t h = ascii_passes 0 0 b t h

unfoldable pub all_ascii : List ℕ → Bool
all_ascii [] = true
all_ascii (b ∷ s) = ltb b 0x80 && all_ascii s

pub ascii_is_utf8 : (a t : List ℕ) → all_ascii a ≡ true → utf8 (a ++ t) ≡ utf8 t
unfolding all_ascii
ascii_is_utf8 [] t h = refl
ascii_is_utf8 (b ∷ a) t h =
    ascii_first b (a ++ t) (ltb-true b 0x80 (and_left (ltb b 0x80) (all_ascii a) h))
    ∙ ascii_is_utf8 a t (and_right (ltb b 0x80) (all_ascii a) h)

-- in a good text an ASCII byte stands between sequences
pub ascii_stands_between : (k low n b : ℕ) (s : List ℕ) → b < 0x80 → utf8_after k low n (b ∷ s) ≡ true → (k ≡ 0) × (utf8 s ≡ true)
ascii_stands_between zero low n b s a h = (refl, sym (ascii_passes low n b s a) ∙ h)
ascii_stands_between (suc k) low n b s a h =
    let g = goes_on_range b (and_left (goes_on b) _ (sym (next_step k low n b s) ∙ h)) in
    absurd (omega (arith, g.0))

-- so other ASCII may stand in its place
pub ascii_in_place : (k low n b : ℕ) (s e r : List ℕ) (x : Bool) → b < 0x80 → utf8_after k low n (b ∷ s) ≡ true → all_ascii e ≡ true
    → (utf8 s ≡ true → utf8 r ≡ x) → utf8_after k low n (e ++ r) ≡ x
ascii_in_place k low n b s e r x a h i rest =
    let z = ascii_stands_between k low n b s a h in
    ap (λ (j : ℕ). utf8_after j low n (e ++ r)) z.0 ∙ between_sequences low n (e ++ r) ∙ ascii_is_utf8 e r i ∙ rest z.1
