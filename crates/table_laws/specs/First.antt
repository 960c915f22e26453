-- The laws of `first`: it is the smallest number at which its test holds, and nothing else is. Every refusal's place rests on these.
use Rattle.std.specs.Prelude.{◌≡◌, refl, ◌⊎◌, Bool, true, false, ℕ, zero, suc, ◌≤◌, ◌<◌, ltb, if◌then◌else◌}
use Rattle.std.proofs.Common.{sym, subst, inl, inr, ⊎_elim, zero-le, suc-le-suc, le_refl, le_trans, le_antisymm, not-suc-le-zero, le_of_suc-le-suc, lt_of_lt_of_le, le_of_eq, lt_irrefl, eq-or-lt_of_le, arith, lt-ltb, le-ltb, ltb-true, ltb-false}
use Rattle.std.proofs.Math.Nat.{le-suc}
use Rattle.base.specs.Bools.{clash}
use Rattle.meaning.specs.First.{first, some, IsFirst}

pub not_less : {a b : ℕ} → (b < a → ⊥) → a ≤ b
not_less h = omega arith

module _ {f : ℕ → Bool} {n : ℕ} where
  no_later : {r s : ℕ} → IsFirst f n r → IsFirst f n s → r < s → ⊥
  no_later {r} {s} p q l = clash (p.found (lt_of_lt_of_le l q.within)) (q.before r l)

  -- any two are equal
  pub only_one_is_first : {r s : ℕ} → IsFirst f n r → IsFirst f n s → r ≡ s
  only_one_is_first {r} {s} p q = le_antisymm (not_less (no_later q p)) (not_less (no_later p q))

pub first_is_first : (f : ℕ → Bool) (n : ℕ) → IsFirst f n (first f n)
unfolding first
first_is_first f zero = record { within = zero-le; before = λ k l. absurd (not-suc-le-zero l); found = λ l. absurd (not-suc-le-zero l) }
first_is_first f (suc n) = go (first f n) (first_is_first f n) (f n) refl (eq-or-lt_of_le (first_is_first f n).within)
  where
    at_end : (b : Bool) → f n ≡ b → ((k : ℕ) → k < n → f k ≡ false) → IsFirst f (suc n) (if b then n else suc n)
    at_end true e h = record { within = le-suc n; before = h; found = λ _. e }
    at_end false e h = record {
      within = le_refl (suc n);
      before = λ k l. ⊎_elim (λ q. subst (λ (m : ℕ). f m ≡ false) (sym q) e) (h k) (eq-or-lt_of_le (le_of_suc-le-suc l));
      found = λ l. absurd (lt_irrefl (suc n) l);
    }

    go : (r : ℕ) → IsFirst f n r → (b : Bool) → f n ≡ b → (r ≡ n) ⊎ (r < n) → IsFirst f (suc n) (if ltb r n then r else if b then n else suc n)
    go r p b e (inl q) =
        rw (le-ltb r n (le_of_eq (sym q))) (at_end b e (λ k l. p.before k (subst (λ (m : ℕ). k < m) (sym q) l)))
    go r p b e (inr l) =
        rw (lt-ltb r n l) (record { within = le_trans p.within (le-suc n); before = p.before; found = λ _. p.found l })

-- ---- what a loop has shown is `first`'s own value

pub is_first_lem : {f : ℕ → Bool} {n r : ℕ} → IsFirst f n r → r ≡ first f n
is_first_lem {f} {n} p = only_one_is_first p (first_is_first f n)

-- found at r, and not before
pub first_hit : {f : ℕ → Bool} {n r : ℕ} → r < n → ((k : ℕ) → k < r → f k ≡ false) → f r ≡ true → r ≡ first f n
first_hit l h e = is_first_lem (record { within = omega arith; before = h; found = λ _. e })

-- found nowhere
pub first_none : {f : ℕ → Bool} {n : ℕ} → ((k : ℕ) → k < n → f k ≡ false) → n ≡ first f n
first_none {f} {n} h = is_first_lem (record { within = le_refl n; before = h; found = λ l. absurd (lt_irrefl n l) })

-- ---- `some`

pub some_yes : (f : ℕ → Bool) {n : ℕ} (k : ℕ) → k < n → f k ≡ true → some f n ≡ true
unfolding some
some_yes f {n} k l e =
    let p = first_is_first f n in
    lt-ltb (first f n) n (⊎_elim (λ q. clash e (p.before k (subst (λ (m : ℕ). k < m) (sym q) l))) (λ h. h) (eq-or-lt_of_le p.within))

pub some_no : (f : ℕ → Bool) {n : ℕ} → ((k : ℕ) → k < n → f k ≡ false) → some f n ≡ false
unfolding some
some_no f {n} h = le-ltb (first f n) n (le_of_eq (first_none h))

-- where it holds, and that it holds nowhere
pub some_at : (f : ℕ → Bool) {n : ℕ} → some f n ≡ true → (k : ℕ) × (k < n) × (f k ≡ true)
unfolding some
some_at f {n} e = let l = ltb-true (first f n) n e in (first f n, l, (first_is_first f n).found l)

pub some_none : (f : ℕ → Bool) {n : ℕ} → some f n ≡ false → (k : ℕ) → k < n → f k ≡ false
unfolding some
some_none f {n} e k l = (first_is_first f n).before k (lt_of_lt_of_le l (ltb-false (first f n) n e))

-- ---- a loop that goes down: r is the first of the numbers from `low` on

pub record FirstFrom (f : ℕ → Bool) (low n r : ℕ) : Type 0 where
  pub within : r ≤ n
  pub before : (k : ℕ) → low ≤ k → k < r → f k ≡ false
  pub found : r < n → f r ≡ true

pub from_end : {f : ℕ → Bool} {n : ℕ} → FirstFrom f n n n
from_end {f} {n} = record { within = le_refl n; before = λ k a b. absurd (lt_irrefl n (le_trans (suc-le-suc a) b)); found = λ l. absurd (lt_irrefl n l) }

pub from_hit : {f : ℕ → Bool} {n i : ℕ} → i < n → f i ≡ true → FirstFrom f i n i
from_hit {f} {n} {i} l e = record { within = omega arith; before = λ k a b. absurd (lt_irrefl i (le_trans (suc-le-suc a) b)); found = λ _. e }

pub from_miss : {f : ℕ → Bool} {n r i : ℕ} → f i ≡ false → FirstFrom f (suc i) n r → FirstFrom f i n r
from_miss {f} {n} {r} {i} e p = record {
  within = p.within;
  before = λ k a b. ⊎_elim (λ (q : i ≡ k). subst (λ (m : ℕ). f m ≡ false) q e) (λ l. p.before k l b) (eq-or-lt_of_le a);
  found = p.found;
}

pub from_first : {f : ℕ → Bool} {low n r : ℕ} → low ≤ 0 → FirstFrom f low n r → r ≡ first f n
from_first h p = is_first_lem (record { within = p.within; before = λ k l. p.before k (le_trans h zero-le) l; found = p.found })
