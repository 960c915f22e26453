-- In an accepted table every list type holds a type: its row has one slot, for a type, and the first child is the next node.
use Rattle.std.specs.Prelude.{◌≡◌, refl, true, List, [], ◌∷◌}
use Rattle.std.proofs.Common.{ap, arith, le-ltb}
use Prim.Native.Nat.{ℕ, zero, suc, ◌+◌, ◌-◌, ◌≤◌, ◌<◌}
use Rattle.std.proofs.Math.Decide.{dec_lt}
use Rattle.base.specs.Bools.{clash, and_left}
use Rattle.meaning.specs.Kind
use Rattle.meaning.specs.Table.{nodes, kind_at, variant_at, end_at, siblings, children_at}
use Rattle.meaning.specs.Children.{type, is_in, one, row_of, fill}
use Rattle.meaning.specs.Refusals.{node_in, Accepted}
use Rattle.tree_laws.specs.Lists.{ListsHoldTypes}
use Rattle.accepted_laws.specs.Shape.{accepted_shaped}
use Rattle.accepted_laws.specs.Inside.{listed, no_children_fault, first_sibling}

no_sibling : (n : ℕ) (w : List ℕ) (i e : ℕ) → e ≤ i → siblings n w i e ≡ []
unfolding siblings
no_sibling zero w i e h = refl
no_sibling (suc n) w i e h = rw (le-ltb i e h, siblings)

-- one slot, filled from the siblings
module _ (w : List ℕ) (n i e : ℕ) (h : fill (node_in w) (one type ∷ []) (siblings (suc n) w i e) ≡ true) where
  there : i < e
  unfolding fill
  there = elim (dec_lt i e) [ yes l ↦ l | no l ↦ clash h (ap (fill (node_in w) (one type ∷ [])) (no_sibling (suc n) w i e (omega arith))) ]

  is_type_lem : is_in type (kind_at w i) (variant_at w i) ≡ true
  unfolding fill node_in
  is_type_lem = and_left _ _ (rw (first_sibling n w i e there) at h)

module _ {w p : List ℕ} (ok : Accepted w p) (i : ℕ) (l : i < nodes w) (k : kind_at w i ≡ Kind.list_type) where
  filled : fill (node_in w) (one type ∷ []) (siblings (suc (end_at w i - (i + 1))) w (i + 1) (end_at w i)) ≡ true
  unfolding children_at row_of
  filled =
      let e : end_at w i - i ≡ suc (end_at w i - (i + 1)) = omega (arith, (accepted_shaped ok).above i l) in
      rw (k, e) at (listed w i (no_children_fault ok i l))

  holds_one : i + 1 < end_at w i
  holds_one = there w (end_at w i - (i + 1)) (i + 1) (end_at w i) filled

  holds_type : is_in type (kind_at w (i + 1)) (variant_at w (i + 1)) ≡ true
  holds_type = is_type_lem w (end_at w i - (i + 1)) (i + 1) (end_at w i) filled

pub accepted_lists : {w p : List ℕ} → Accepted w p → ListsHoldTypes w
accepted_lists ok = record { inside = holds_one ok; is_type = holds_type ok }
