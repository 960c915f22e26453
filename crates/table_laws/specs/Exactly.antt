-- Document 01's refusal table, "given exactly when": the verdict is refusal m at node i exactly if i has the fault m, no smaller node
-- has it and no node has a lower one; and a table is accepted exactly if it has no fault.
use Prim.Native.Nat.{ℕ, zero, suc, ◌+◌, ◌≤◌, ◌<◌}
use Rattle.std.specs.Prelude.{◌≡◌, Bool, true, List, ltb, if◌then◌else◌}
use Rattle.std.proofs.Math.Path.{refl}
use Rattle.std.proofs.Common.{sym, subst, inl, ⊎_elim, le_antisymm, le_of_suc-le-suc, eq-or-lt_of_le, arith}
use Rattle.std.proofs.Math.Logic.{inr}
use Rattle.std.proofs.Math.Bool.{false}
use Rattle.std.proofs.Math.Decide.{dec_le}
use borrow.Author.Tests.{ltb-true, ltb-false, ne_eqb}
use Rattle.base.specs.Bools.{clash}
use Rattle.meaning.specs.First.{first, IsFirst}
use Rattle.meaning.specs.Table.{nodes}
use Rattle.meaning.specs.Refusals.{size_fault, has_fault, Verdict, accepted, refusal, lowest_from, verdict, Given, Right, ExactlyWhen}
use Rattle.table_laws.specs.First.{not_less, first_is_first}

module _ (w p : List ℕ) where
  -- no node has a fault of a number below m
  abbrev Clear : ℕ → Type 0
  Clear m = (l : ℕ) → l < m → (k : ℕ) → k < nodes w → has_fault w p l k ≡ false

  -- only 3 to 7 are faults of a node
  none_below : Clear 3
  unfolding has_fault
  none_below l h k r = rw (ne_eqb l 3 (omega arith), ne_eqb l 4 (omega arith), ne_eqb l 5 (omega arith), ne_eqb l 6 (omega arith), ne_eqb l 7 (omega arith))

  none_above : (l : ℕ) → 8 ≤ l → (k : ℕ) → has_fault w p l k ≡ false
  unfolding has_fault
  none_above l h k = rw (ne_eqb l 3 (omega arith), ne_eqb l 4 (omega arith), ne_eqb l 5 (omega arith), ne_eqb l 6 (omega arith), ne_eqb l 7 (omega arith))

  clear_one_more : (m : ℕ) → Clear m → ((k : ℕ) → k < nodes w → has_fault w p m k ≡ false) → Clear (suc m)
  clear_one_more m c h l s k r =
      ⊎_elim (λ (e : l ≡ m). subst (λ (x : ℕ). has_fault w p x k ≡ false) (sym e) (h k r)) (λ g. c l g k r) (eq-or-lt_of_le (le_of_suc-le-suc s))

  -- what a verdict says once the numbers below e are tried
  abbrev Says : ℕ → Verdict → Type 0
  Says e accepted = Clear e
  Says e (refusal m i) = Given w p m i

  module _ (fine : size_fault w p ≡ false) where
    tried : (n m : ℕ) → Clear m → Says (m + n) (lowest_from n m w p)
    unfolding lowest_from
    tried zero m c = λ l h. c l (omega arith)
    tried (suc n) m c = go (ltb (first (has_fault w p m) (nodes w)) (nodes w)) refl (tried n (suc m))
      where
        at : IsFirst (has_fault w p m) (nodes w) (first (has_fault w p m) (nodes w))
        at = first_is_first (has_fault w p m) (nodes w)

        same : (v : Verdict) → Says (suc m + n) v → Says (m + suc n) v
        same v = subst (λ (e : ℕ). Says e v) (omega arith)

        go : (t : Bool) → ltb (first (has_fault w p m) (nodes w)) (nodes w) ≡ t → (Clear (suc m) → Says (suc m + n) (lowest_from n (suc m) w p))
            → Says (m + suc n) (if t then refusal m (first (has_fault w p m) (nodes w)) else lowest_from n (suc m) w p)
        go true e later =
            let l = ltb-true (first (has_fault w p m) (nodes w)) (nodes w) e in
            record { size_fine = fine; within = l; here = at.found l; smallest = at.before; lowest = c }
        go false e later =
            let g = ltb-false (first (has_fault w p m) (nodes w)) (nodes w) e in
            same (lowest_from n (suc m) w p) (later (clear_one_more m c (λ k l. at.before k (omega arith))))

    verdict_says : Says 8 (verdict w p)
    unfolding verdict
    verdict_says = rw fine (tried 5 3 none_below)

  -- any two refusals that the table of refusals allows are one
  module _ {m i m' i' : ℕ} (g : Given w p m i) (h : Given w p m' i') where
    no_lower : m < m' → ⊥
    no_lower l = clash g.here (h.lowest m l i g.within)

    no_higher : m' < m → ⊥
    no_higher l = clash h.here (g.lowest m' l i' h.within)

    pub same_number : m ≡ m'
    same_number = le_antisymm (not_less no_higher) (not_less no_lower)

    pub same_place : i ≡ i'
    same_place = le_antisymm (not_less no_later) (not_less no_earlier)
      where
        no_earlier : i < i' → ⊥
        no_earlier l = clash g.here (subst (λ (x : ℕ). has_fault w p x i ≡ false) (sym same_number) (h.smallest i l))

        no_later : i' < i → ⊥
        no_later l = clash h.here (subst (λ (x : ℕ). has_fault w p x i' ≡ false) same_number (g.smallest i' l))

  accepted_has_none : Clear 8 → (m k : ℕ) → k < nodes w → has_fault w p m k ≡ false
  accepted_has_none c m k l = go (dec_le 8 m)
    where
      go : Dec (8 ≤ m) → has_fault w p m k ≡ false
      go (yes h) = none_above m h k
      go (no h) = c m (omega arith) k l

  pub verdict_is_right : Right w p (verdict w p)
  unfolding verdict
  verdict_is_right = go (size_fault w p) refl
    where
      fits : size_fault w p ≡ false → (v : Verdict) → Says 8 v → Right w p v
      fits e accepted c = record { size_fine = e; none = accepted_has_none c }
      fits e (refusal m i) g = inr g

      go : (t : Bool) → size_fault w p ≡ t → Right w p (if t then refusal 2 0 else lowest_from 5 3 w p)
      go true e = inl (refl, refl, e)
      go false e = fits e (lowest_from 5 3 w p) (rw e at (verdict_says e))

  -- and only one is
  pub one_is_right : (u v : Verdict) → Right w p u → Right w p v → u ≡ v
  one_is_right accepted accepted a b = refl
  one_is_right accepted (refusal m i) a (inl z) = clash z.2 a.size_fine
  one_is_right accepted (refusal m i) a (inr g) = clash g.here (a.none m i g.within)
  one_is_right (refusal m i) accepted (inl z) b = clash z.2 b.size_fine
  one_is_right (refusal m i) accepted (inr g) b = clash g.here (b.none m i g.within)
  one_is_right (refusal m i) (refusal m' i') (inl y) (inl z) = rw (y.0, y.1, z.0, z.1)
  one_is_right (refusal m i) (refusal m' i') (inl y) (inr h) = clash y.2 h.size_fine
  one_is_right (refusal m i) (refusal m' i') (inr g) (inl z) = clash z.2 g.size_fine
  one_is_right (refusal m i) (refusal m' i') (inr g) (inr h) = rw (same_number g h, same_place g h)

  pub given_exactly_when : ExactlyWhen w p
  given_exactly_when v = (λ e. subst (Right w p) e verdict_is_right, one_is_right (verdict w p) v verdict_is_right)
