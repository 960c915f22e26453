-- What is said of an escape, and what each escape means by its bytes. Four digits are looked at by their values: a value past 15 is no
-- digit's.
use Rattle.std.specs.Prelude.{◌≡◌, refl, Option, Some, None, Bool, true, false, ◌&&◌, List, [], ◌∷◌, ℕ, ◌+◌, ◌-◌, ◌*◌, ◌≤◌, ◌<◌, eqb, ltb, length, drop, get_or, if◌then◌else◌}
use Rattle.std.proofs.Common.{eq-eqb, ne_eqb, lt-ltb, le-ltb, le-leb, sym, ap, ◌∙◌, arith, drop_of_length-le}
use Rattle.std.proofs.Math.ListN.{length-drop}
use Rattle.base.specs.Bools.{and_false}
use Rattle.meaning.specs.Utf8.{scalar, encoded}
use Rattle.meaning.specs.Quoted.{letter_u}
use Rattle.meaning.specs.Reading.{Front, character, wrong, hex_value, unicode_escape, letter_byte, escape}
use Rattle.pen.specs.Lists.{drop_one}
use Rattle.read_quoted.specs.Encodings.{in_one_byte}
use Rattle.std.specs.Borrow.{Bor}

-- an escape of k bytes after its backslash, at the front of s, stands for the scalar value n
pub record Stands (s : List ℕ) (front : Front) (n k : ℕ) : Type 0 where
  pub bound : n ≤ 0x10FFFF
  pub within : k ≤ length s
  pub means : front ≡ character (encoded n) k

-- what an escape of k bytes after its backslash means that stands for this character, or for none
abbrev pub front_of : Option ℕ → ℕ → Front
front_of (Some n) k = character (encoded n) k
front_of None k = wrong

-- the answer on the text s after a backslash, where `front` is what it means: the character, and what stands behind the escape
abbrev pub EscapedIs : List ℕ → Front → Option (ℕ × Bor (List ℕ)) → Type 0
EscapedIs s front (Some (n, rest)) = (k : ℕ) × (Stands s front n k × (rest.now ≡ drop k s))
EscapedIs s front None = front ≡ wrong

-- ---- `\u`

-- the values of the four bytes after the `u` at i
pub record Digits (s : List ℕ) (i a b c d : ℕ) : Type 0 where
  pub room : i + 5 ≤ length s
  pub first : a ≡ hex_value (get_or s (i + 1) 0)
  pub second : b ≡ hex_value (get_or s (i + 2) 0)
  pub third : c ≡ hex_value (get_or s (i + 3) 0)
  pub fourth : d ≡ hex_value (get_or s (i + 4) 0)

abbrev number : ℕ → ℕ → ℕ → ℕ → ℕ
number a b c d = ((a * 16 + b) * 16 + c) * 16 + d

by_values : ℕ → ℕ → ℕ → ℕ → Front
by_values a b c d =
    if ltb a 16 && (ltb b 16 && (ltb c 16 && (ltb d 16 && scalar (number a b c d)))) then character (encoded (number a b c d)) 5
    else wrong

four_bytes_lem : (s : List ℕ) (i : ℕ) → i + 5 ≤ length s
    → drop (i + 1) s ≡ get_or s (i + 1) 0 ∷ get_or s (i + 2) 0 ∷ get_or s (i + 3) 0 ∷ get_or s (i + 4) 0 ∷ drop (i + 5) s
four_bytes_lem s i h =
    rw (one 1 (omega arith), one 2 (omega arith), one 3 (omega arith), one 4 (omega arith))
  where
    one : (k : ℕ) → i + k < length s → drop (i + k) s ≡ get_or s (i + k) 0 ∷ drop (i + (k + 1)) s
    one k p = let z : i + k + 1 ≡ i + (k + 1) = omega arith in drop_one s (i + k) p ∙ rw z

by_values_lem : (s : List ℕ) (i a b c d : ℕ) → Digits s i a b c d → unicode_escape (drop (i + 1) s) ≡ by_values a b c d
unfolding unicode_escape by_values
by_values_lem s i a b c d g = rw (four_bytes_lem s i g.room, g.first, g.second, g.third, g.fourth)

three_are_wrong : (t : List ℕ) → length t < 4 → unicode_escape t ≡ wrong
unfolding unicode_escape
three_are_wrong [] h = refl
three_are_wrong (a ∷ []) h = refl
three_are_wrong (a ∷ (b ∷ [])) h = refl
three_are_wrong (a ∷ (b ∷ (c ∷ []))) h = refl
three_are_wrong (a ∷ (b ∷ (c ∷ (d ∷ t)))) h = absurd (omega arith)

pub too_few_digits : (s : List ℕ) (i : ℕ) → i < length s → length s - i < 5 → unicode_escape (drop (i + 1) s) ≡ wrong
too_few_digits s i p h = three_are_wrong (drop (i + 1) s) (omega (arith, length-drop (i + 1) s))

module _ {s : List ℕ} {i a b c d : ℕ} (g : Digits s i a b c d) where
  pub first_is_no_digit : 15 < a → unicode_escape (drop (i + 1) s) ≡ wrong
  unfolding by_values
  first_is_no_digit h = by_values_lem s i a b c d g ∙ rw (le-ltb a 16 h)

  pub second_is_no_digit : 15 < b → unicode_escape (drop (i + 1) s) ≡ wrong
  unfolding by_values
  second_is_no_digit h = by_values_lem s i a b c d g ∙ simp (le-ltb b 16 h, and_false)

  pub third_is_no_digit : 15 < c → unicode_escape (drop (i + 1) s) ≡ wrong
  unfolding by_values
  third_is_no_digit h = by_values_lem s i a b c d g ∙ simp (le-ltb c 16 h, and_false)

  pub fourth_is_no_digit : 15 < d → unicode_escape (drop (i + 1) s) ≡ wrong
  unfolding by_values
  fourth_is_no_digit h = by_values_lem s i a b c d g ∙ simp (le-ltb d 16 h, and_false)

  pub surrogate_is_wrong : 0xD800 ≤ number a b c d → number a b c d ≤ 0xDFFF → unicode_escape (drop (i + 1) s) ≡ wrong
  unfolding by_values scalar
  surrogate_is_wrong h k =
      by_values_lem s i a b c d g ∙ simp (le-ltb (number a b c d) 0xD800 h, le-ltb 0xDFFF (number a b c d) k, and_false)

  stands : a ≤ 15 → b ≤ 15 → c ≤ 15 → d ≤ 15 → scalar (number a b c d) ≡ true
      → Stands (drop i s) (unicode_escape (drop (i + 1) s)) (number a b c d) 5
  unfolding by_values
  stands p q r t n = record {
    bound = omega arith;
    within = omega (arith, length-drop i s, g.room);
    means =
        by_values_lem s i a b c d g
        ∙ rw (lt-ltb a 16 (omega arith), lt-ltb b 16 (omega arith), lt-ltb c 16 (omega arith), lt-ltb d 16 (omega arith), n);
  }

  pub below_surrogates : a ≤ 15 → b ≤ 15 → c ≤ 15 → d ≤ 15 → number a b c d < 0xD800
      → Stands (drop i s) (unicode_escape (drop (i + 1) s)) (number a b c d) 5
  unfolding scalar
  below_surrogates p q r t h =
      stands p q r t (rw (le-leb (number a b c d) 0x10FFFF (omega arith), lt-ltb (number a b c d) 0xD800 h))

  pub past_surrogates : a ≤ 15 → b ≤ 15 → c ≤ 15 → d ≤ 15 → 0xDFFF < number a b c d
      → Stands (drop i s) (unicode_escape (drop (i + 1) s)) (number a b c d) 5
  unfolding scalar
  past_surrogates p q r t h =
      let low = le-ltb (number a b c d) 0xD800 (omega arith) in
      stands p q r t (rw (le-leb (number a b c d) 0x10FFFF (omega arith), low, lt-ltb 0xDFFF (number a b c d) h))

-- ---- letters

smaller : (x : Bool) (m n : ℕ) → m < 0x80 → n < 0x80 → (if x then m else n) < 0x80
smaller true m n h k = h
smaller false m n h k = k

letters_are_ascii : (c : ℕ) → letter_byte c < 0x80
unfolding letter_byte
letters_are_ascii c =
    smaller (eqb c 0x22) _ _ (omega arith)
    (smaller (eqb c 0x5C) _ _ (omega arith)
    (smaller (eqb c 0x2F) _ _ (omega arith)
    (smaller (eqb c 0x62) _ _ (omega arith)
    (smaller (eqb c 0x66) _ _ (omega arith)
    (smaller (eqb c 0x6E) _ _ (omega arith)
    (smaller (eqb c 0x72) _ _ (omega arith)
    (smaller (eqb c 0x74) _ _ (omega arith) (omega arith))))))))

-- ---- any escape; the byte after its backslash is at i

pub no_escape_left : (s : List ℕ) (i : ℕ) → length s ≤ i → escape (drop i s) ≡ wrong
unfolding escape
no_escape_left s i h = rw (drop_of_length-le s h)

module _ (s : List ℕ) (i : ℕ) (h : i < length s) where
  pub digits_follow : get_or s i 0 ≡ letter_u → unicode_escape (drop (i + 1) s) ≡ escape (drop i s)
  unfolding escape
  digits_follow e = rw (drop_one s i h, e)

  lettered : (b : ℕ) → (get_or s i 0 ≡ letter_u → ⊥) → b ≡ letter_byte (get_or s i 0)
      → escape (drop i s) ≡ (if eqb b 0 then wrong else character (b ∷ []) 1)
  unfolding escape
  lettered b n e = rw (drop_one s i h, ne_eqb (get_or s i 0) letter_u n, e)

  pub no_letter : (b : ℕ) → (get_or s i 0 ≡ letter_u → ⊥) → b ≡ letter_byte (get_or s i 0) → b ≡ 0 → escape (drop i s) ≡ wrong
  no_letter b n e z = lettered b n e ∙ rw (eq-eqb b 0 z)

  pub a_letter : (b : ℕ) → (get_or s i 0 ≡ letter_u → ⊥) → b ≡ letter_byte (get_or s i 0) → (b ≡ 0 → ⊥)
      → Stands (drop i s) (escape (drop i s)) b 1
  a_letter b n e z =
      let small : b < 0x80 = rw e (letters_are_ascii (get_or s i 0)) in
      record {
        bound = omega arith;
        within = omega (arith, length-drop i s);
        means = lettered b n e ∙ rw (ne_eqb b 0 z) (ap (λ (t : List ℕ). character t 1) (sym (in_one_byte b small)));
      }

-- ---- the answer taken apart

pub answered_scalar : {s : List ℕ} {front : Front} {r : Option (ℕ × Bor (List ℕ))} {n : ℕ} {rest : Bor (List ℕ)} → EscapedIs s front r → r ≡ Some (n, rest)
    → (k : ℕ) × (Stands s front n k × (rest.now ≡ drop k s))
answered_scalar h e = rw e at h

pub answered_wrong : (s : List ℕ) {front : Front} {r : Option (ℕ × Bor (List ℕ))} → EscapedIs s front r → r ≡ None → front ≡ wrong
answered_wrong s h e = rw e at h
