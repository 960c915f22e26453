-- Why a look at the first bytes is enough: a text of a name's bytes that is within its rule's limits fits, and a text of ASCII is UTF-8.
use Rattle.std.proofs.Common.{◌≡◌, refl, ap, ◌∙◌, Bool, true, false, ◌||◌, List, [], ◌∷◌, ℕ, zero, suc, ◌≤◌, ◌<◌, length, get_or, take, if◌then◌else◌, arith, drop_of_length-le, length-take-le}
use Rattle.std.proofs.Math.Seq.{get_or-take}
use Rattle.std.proofs.lemmas.Bool.{ne_eqb}
use Rattle.base.specs.Bools.{clash}
use Rattle.meaning.specs.Ascii.{ascii}
use Rattle.meaning.specs.Utf8.{utf8}
use Rattle.meaning.specs.Children.{no_text, fragment_name, enum_name}
use Rattle.meaning.specs.Text.{starts_name, is_digit, goes_on_name, is_name, same, is_reserved, text_fits}
use Rattle.text.specs.Run.{ascii_run_passes}

not_strange : (b : ℕ) → (if starts_name b || is_digit b then 0 else 1) ≤ 0 → (starts_name b || is_digit b) ≡ true
not_strange b = go (starts_name b || is_digit b)
  where
    go : (x : Bool) → (if x then 0 else 1) ≤ 0 → x ≡ true
    go true h = refl
    go false h = absurd (omega arith)

-- ---- a text of a name's bytes

abbrev NameBytes : List ℕ → Type 0
NameBytes s = (k : ℕ) → k < length s → (starts_name (get_or s k 0) || is_digit (get_or s k 0)) ≡ true

goes_on_lem : (s : List ℕ) → NameBytes s → goes_on_name s ≡ true
unfolding goes_on_name
goes_on_lem [] h = refl
goes_on_lem (b ∷ s) h = rw (h 0 (omega arith)) (goes_on_lem s (λ k l. h (suc k) (omega arith)))

other : (x y : Bool) → (x || y) ≡ true → y ≡ false → x ≡ true
other true y h e = refl
other false y h e = clash h e

is_a_name : (s : List ℕ) → 1 ≤ length s → is_digit (get_or s 0 0) ≡ false → NameBytes s → is_name s ≡ true
unfolding is_name
is_a_name [] l h names = absurd (omega arith)
is_a_name (b ∷ s) l h names =
    rw (other (starts_name b) (is_digit b) (names 0 (omega arith)) h) (goes_on_lem s (λ k u. names (suc k) (omega arith)))

-- ---- the rules, by the first byte of the n that stand first among some bytes

module _ (bytes : List ℕ) (n : ℕ) where
  pub no_text_fits : n ≡ 0 → text_fits no_text (take n bytes) ≡ true
  unfolding text_fits same
  no_text_fits e = rw e

  begins_other : (y : ℕ) (t : List ℕ) → 1 ≤ n → (get_or bytes 0 0 ≡ y → ⊥) → same (take n bytes) (y ∷ t) ≡ false
  unfolding same
  begins_other y t l h = go bytes n l h
    where
      go : (s : List ℕ) (k : ℕ) → 1 ≤ k → (get_or s 0 0 ≡ y → ⊥) → same (take k s) (y ∷ t) ≡ false
      go s zero l h = absurd (omega arith)
      go [] (suc k) l h = refl
      go (b ∷ s) (suc k) l h = rw (ne_eqb b y h)

  pub fragment_name_fits : 1 ≤ n → get_or bytes 0 0 < 0x6F → is_name (take n bytes) ≡ true → text_fits fragment_name (take n bytes) ≡ true
  unfolding text_fits
  fragment_name_fits l h e = rw (e, begins_other 0x6F (ascii "n") l (λ q. omega arith))

  pub enum_name_fits : 1 ≤ n → get_or bytes 0 0 ≤ 0x5F → is_name (take n bytes) ≡ true → text_fits enum_name (take n bytes) ≡ true
  unfolding text_fits is_reserved
  enum_name_fits l h e =
      rw (
        e,
        begins_other 0x74 (ascii "rue") l (λ q. omega arith),
        begins_other 0x66 (ascii "alse") l (λ q. omega arith),
        begins_other 0x6E (ascii "ull") l (λ q. omega arith),
      )

-- ---- what the code has seen

module _ (bytes : List ℕ) (n r : ℕ) (size : length bytes ≡ 64) where
  pub seen_name : 1 ≤ n → n ≤ 16 → is_digit (get_or bytes 0 0) ≡ false
      → ((k : ℕ) → k < 16 → k < n → (x : ℕ) × (x ≡ (if starts_name (get_or bytes k 0) || is_digit (get_or bytes k 0) then 0 else 1)) × (x ≤ r))
      → r ≡ 0 → is_name (take n bytes) ≡ true
  seen_name l u d bits z =
      let long : length (take n bytes) ≡ n = length-take-le n bytes (omega arith) in
      is_a_name (take n bytes) (omega arith) (rw (get_or-take n bytes 0 0 l) d)
      (λ k v.
      let h : k < n = omega arith in
      let p = bits k (omega arith) h in
      rw (get_or-take n bytes k 0 h) (not_strange (get_or bytes k 0) (omega (arith, p.1, p.2))))

  pub seen_ascii : n ≤ 64 → ((k : ℕ) → k < 64 → k < n → (x : ℕ) × (x ≡ get_or bytes k 0) × (x ≤ r)) → r < 0x80 → utf8 (take n bytes) ≡ true
  unfolding utf8
  seen_ascii u bits low =
      let s = take n bytes in
      let long : length s ≡ n = length-take-le n bytes (omega arith) in
      ascii_run_passes s 0 n (record {
        from = omega arith;
        within = omega arith;
        ascii = λ k _ v. rw (get_or-take n bytes k 0 v) (let p = bits k (omega arith) v in omega (arith, p.1, p.2));
      })
      ∙ ap utf8 (drop_of_length-le s {i = n} (omega arith))
