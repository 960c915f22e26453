-- Every byte of a UTF-8 text is below 256: lead bytes are below F8, bytes that go on below C0.
use Rattle.std.specs.Prelude.{◌≡◌, refl, true, List, [], ◌∷◌, ℕ, zero, suc, ◌<◌, ltb}
use Rattle.std.proofs.Common.{sym, ◌∙◌, arith, lt-ltb}
use Rattle.std.proofs.Math.Pow.{are_bytes}
use Rattle.base.specs.Bools.{and_left, and_both}
use Rattle.meaning.specs.Utf8.{leads, goes_on, utf8_after, utf8}
use Rattle.utf8_laws.specs.Steps.{lead_step, next_step, between_sequences, Lead, one_byte, two_bytes, three_bytes, four_bytes, lead_range, goes_on_range}
use Rattle.utf8_laws.specs.Append.{left_by}

lead_is_byte : (b : ℕ) → Lead b → b < 256
lead_is_byte b (one_byte h) = omega arith
lead_is_byte b (two_bytes l h) = omega arith
lead_is_byte b (three_bytes l h) = omega arith
lead_is_byte b (four_bytes l h) = omega arith

first_is_byte : (k low n b : ℕ) (s : List ℕ) → utf8_after k low n (b ∷ s) ≡ true → b < 256
first_is_byte zero low n b s h = lead_is_byte b (lead_range b (and_left (leads b) _ (sym (lead_step low n b s) ∙ h)))
first_is_byte (suc k) low n b s h =
    let r = goes_on_range b (and_left (goes_on b) _ (sym (next_step k low n b s) ∙ h)) in omega (arith, r.1)

bytes_after : (k low n : ℕ) (s : List ℕ) → utf8_after k low n s ≡ true → are_bytes s ≡ true
bytes_after k low n [] h = refl
bytes_after k low n (b ∷ s) h =
    let l = left_by k low n b s h in
    and_both (ltb b 256) (are_bytes s) (lt-ltb b 256 (first_is_byte k low n b s h)) (bytes_after l.more l.lowest l.value s l.good)

pub utf8_is_bytes : (s : List ℕ) → utf8 s ≡ true → are_bytes s ≡ true
utf8_is_bytes s h = bytes_after 0 0 0 s (between_sequences 0 0 s ∙ h)
