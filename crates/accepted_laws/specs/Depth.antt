-- The tree of an accepted table is at most 65 nodes high: a child is deeper than its parent, since whatever is above the parent is above
-- the child and so is the parent, and no node is deeper than 64.
use Rattle.std.specs.Prelude.{◌≡◌, refl, Bool, true, false, List, ltb, if◌then◌else◌}
use Rattle.std.proofs.Common.{⊎_elim, le_refl, le_trans, eq-or-lt_of_le, lt-ltb, ltb-true}
use Prim.Native.Nat.{ℕ, zero, suc, ◌+◌, ◌-◌, ◌≤◌, ◌<◌}
use native.Mathlib.Omega.{arith}
use Rattle.std.proofs.Math.Decide.{dec_lt}
use Rattle.base.specs.Bools.{clash, and_right, and_both}
use Rattle.meaning.specs.First.{count}
use Rattle.meaning.specs.Table.{nodes, end_at, forest, tree_at, tree_of}
use Rattle.meaning.specs.Refusals.{is_above, depth_at, Accepted}
use Rattle.tree_laws.specs.Height.{height, heights}
use Rattle.tree_laws.specs.Forest.{Shaped, Range, children_range, rest_range, forest_more, forest_none, tall_below}
use Rattle.accepted_laws.specs.Shape.{accepted_shaped, accepted_depth, accepted_some_node}

-- ---- counting

-- a test that holds wherever another does holds at no fewer numbers
count_all : (f g : ℕ → Bool) (n : ℕ) → ((k : ℕ) → k < n → f k ≡ true → g k ≡ true) → count f n ≤ count g n
unfolding count
count_all f g zero h = le_refl 0
count_all f g (suc n) h = go (f n) refl (g n) refl (count_all f g n (λ k l. h k (omega arith)))
  where
    go : (x : Bool) → f n ≡ x → (y : Bool) → g n ≡ y → count f n ≤ count g n
        → (if x then suc (count f n) else count f n) ≤ (if y then suc (count g n) else count g n)
    go true p true q le = omega arith
    go true p false q le = clash (h n (le_refl (suc n)) p) q
    go false p true q le = omega arith
    go false p false q le = le

count_next : (g : ℕ → Bool) (n : ℕ) → count g n ≤ count g (suc n)
unfolding count
count_next g n = go (g n)
  where
    go : (y : Bool) → count g n ≤ (if y then suc (count g n) else count g n)
    go true = omega arith
    go false = le_refl (count g n)

count_up : (g : ℕ → Bool) (n j : ℕ) → n ≤ j → count g n ≤ count g j
count_up g n zero h = let e : n ≡ 0 = omega arith in rw e (le_refl (count g 0))
count_up g n (suc j) h =
    ⊎_elim
    (λ (e : n ≡ suc j). rw e (le_refl (count g (suc j))))
    (λ (l : n < suc j). le_trans (count_up g n j (omega arith)) (count_next g j))
    (eq-or-lt_of_le h)

-- one more where the test holds at n
count_past : (g : ℕ → Bool) (n j : ℕ) → g n ≡ true → n < j → count g n + 1 ≤ count g j
count_past g n j e h = le_trans here (count_up g (suc n) j h)
  where
    here : count g n + 1 ≤ count g (suc n)
    here = unfold count in rw e (omega arith)

-- ---- depths

-- whatever is above i is above a node inside i's subtree
above_both : {w p : List ℕ} → Shaped w p → (i j k : ℕ) → i < nodes w → i < j → j < end_at w i → k < i
    → is_above w i k ≡ true → is_above w j k ≡ true
unfolding is_above
above_both {w} s i j k h a b l e =
    let inside = ltb-true i (end_at w k) (and_right (ltb k i) _ e) in
    and_both (ltb k j) (ltb j (end_at w k)) (lt-ltb k j (omega arith)) (lt-ltb j (end_at w k) (omega (arith, s.nested k i (omega arith) l inside)))

-- a node inside i's subtree is deeper than i
deeper_inside : {w p : List ℕ} → Shaped w p → (i : ℕ) → i < nodes w → (j : ℕ) → i + 1 ≤ j → j < end_at w i → depth_at w i + 1 ≤ depth_at w j
unfolding depth_at
deeper_inside {w} s i h j a b =
    let all = count_all (is_above w i) (is_above w j) i (λ k. above_both s i j k h (omega arith) b) in
    omega (arith, count_past (is_above w j) i j here (omega arith))
  where
    here : is_above w j i ≡ true
    here = unfold is_above in and_both (ltb i j) (ltb j (end_at w i)) (lt-ltb i j (omega arith)) (lt-ltb j (end_at w i) b)

-- ---- heights

module _ {w p : List ℕ} (ok : Accepted w p) where
  shaped : Shaped w p
  shaped = accepted_shaped ok

  -- trees whose nodes are at depth d or deeper; n bounds how many nodes there are
  heights_in : (n i e d : ℕ) → Range w i e → e - i ≤ n → d ≤ 65 → ((j : ℕ) → i ≤ j → j < e → d ≤ depth_at w j) → d + heights (forest w p i e) ≤ 65
  unfolding height
  heights_in zero i e d r b top deep = let o : e ≤ i = omega arith in rw (forest_none w p o) (omega arith)
  heights_in (suc n) i e d r b top deep =
      elim (dec_lt i e) [
        | no k ↦ let o : e ≤ i = omega arith in rw (forest_none w p o) (omega arith)
        | yes k ↦
            let hi : i < nodes w = omega (arith, r.last) in
            let up : i < end_at w i = shaped.above i hi in
            let to : end_at w i ≤ e = r.whole i (omega arith) k in
            let here : d ≤ depth_at w i = deep i (omega arith) k in
            let room : d + 1 ≤ 65 = omega (arith, accepted_depth ok i hi) in
            let inside = deeper_inside shaped i hi in
            let below = heights_in n (i + 1) (end_at w i) (d + 1) (children_range shaped i hi) (omega arith) room (λ j a c. omega (arith, inside j a c)) in
            let after = heights_in n (end_at w i) e d (rest_range shaped r k) (omega arith) top (λ j a c. deep j (omega arith) c) in
            rw (forest_more shaped r k) (omega (arith, tall_below w p i))
      ]

  -- a node's depth and the height of its tree
  pub depth_and_height : (i : ℕ) → i < nodes w → depth_at w i + height (tree_at w p i) ≤ 65
  depth_and_height i h =
      let room : depth_at w i + 1 ≤ 65 = omega (arith, accepted_depth ok i h) in
      let inside = deeper_inside shaped i h in
      let below = heights_in (end_at w i) (i + 1) (end_at w i) (depth_at w i + 1) (children_range shaped i h) (omega arith) room inside in
      omega (arith, tall_below w p i)

  pub accepted_height : height (tree_of w p) ≤ 65
  unfolding tree_of
  accepted_height = omega (arith, depth_and_height 0 (accepted_some_node ok))
