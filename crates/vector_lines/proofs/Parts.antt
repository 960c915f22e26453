-- Where a text's first `stop` stands, and what stands before and behind it.
use Rattle.std.proofs.Common.{◌≡◌, ℕ, suc, ◌+◌, ◌-◌, ◌<◌, ◌≤◌, Bool, true, false, not, cond, Some, None, List, ◌∷◌, length, drop, get_or, nat_lt, arith, ltb-false, refl, add-one, drop-cons}
use Rattle.std.specs.Option.{unwrap_or}
use Rattle.std.specs.List.{position, position_or_len}
use Rattle.vector_lines.specs.Parts.{before, field_of, space, Past}
use Rattle.std.proofs.lemmas.List.Sums.{prefix_len-le-length}

-- the place that was found, or the length
pub or_length : (p : ℕ → Bool) (s : List ℕ) → unwrap_or (position p s) (length s) ≡ position_or_len p s
or_length p s = go (nat_lt (position_or_len p s) (length s)) refl
  where
    go : (t : Bool) → nat_lt (position_or_len p s) (length s) ≡ t → unwrap_or (cond t (Some (position_or_len p s)) None) (length s) ≡ position_or_len p s
    go true e = refl
    go false e = let h = prefix_len-le-length (λ x. not (p x)) s in omega (arith, ltb-false (position_or_len p s) (length s) e, h)

pub drop_one : (s : List ℕ) (i : ℕ) → i < length s → drop i s ≡ get_or s i 0 ∷ drop (i + 1) s
drop_one s i h = rw (add-one, drop-cons s i 0)

-- one field less to pass, of those past the k-th, and none
pub field_past : (s : List ℕ) (i k n r : ℕ) → k < n → Past s i space r → field_of (n - (k + 1)) (drop r s) ≡ field_of (n - k) (drop i s)
unfolding field_of
field_past s i k n r h p = let e : n - k ≡ suc (n - (k + 1)) = omega arith in rw (e, p.rest)

pub field_none : (n k : ℕ) (s : List ℕ) → n ≤ k → field_of (n - k) s ≡ before space s
unfolding field_of
field_none n k s h = let e : n - k ≡ 0 = omega arith in rw e
