-- The trees of a table whose ends nest: a forest is its first tree and the forest after it. The bound on nodes visited, by which the
-- definition recurses, never matters.
use Rattle.std.specs.Prelude.{◌≡◌, List, length}
use Rattle.std.proofs.Math.Path.{refl}
use Rattle.std.proofs.Common.{ap₂, ◌∙◌, arith, lt-ltb, le-ltb}
use Prim.Native.Nat.{ℕ, zero, suc, ◌+◌, ◌-◌, ◌*◌, ◌≤◌, ◌<◌}
use Rattle.std.proofs.Math.Decide.{dec_lt}
use Rattle.meaning.specs.Tree.{tree, none, more}
use Rattle.meaning.specs.Table.{nodes, start_at, length_at, end_at, head_at, forest_in, forest, tree_at}
use Rattle.tree_laws.specs.Height.{height, heights}

-- what refusals 2 to 4 leave of a table: few nodes, texts in the pool, ends above, within and nested
pub record Shaped (w p : List ℕ) : Type 0 where
  pub words : nodes w * 5 ≤ length w
  pub few : nodes w < 8193
  pub texts : (i : ℕ) → i < nodes w → start_at w i + length_at w i ≤ length p
  pub above : (i : ℕ) → i < nodes w → i < end_at w i
  pub within : (i : ℕ) → i < nodes w → end_at w i ≤ nodes w
  pub nested : (i j : ℕ) → i < nodes w → i < j → j < end_at w i → end_at w j ≤ end_at w i

-- whole trees fill the nodes from i up to, not including, e
pub record Range (w : List ℕ) (i e : ℕ) : Type 0 where
  pub last : e ≤ nodes w
  pub order : i ≤ e
  pub whole : (j : ℕ) → i ≤ j → j < e → end_at w j ≤ e

module _ {w p : List ℕ} (s : Shaped w p) where
  -- the children of a node fill a range, and so do the nodes after a tree
  pub children_range : (i : ℕ) → i < nodes w → Range w (i + 1) (end_at w i)
  children_range i h = record { last = s.within i h; order = omega (arith, s.above i h); whole = λ j a b. s.nested i j h (omega arith) b }

  pub rest_range : {i e : ℕ} → Range w i e → i < e → Range w (end_at w i) e
  rest_range {i} {e} r h = record {
    last = r.last;
    order = r.whole i (omega arith) h;
    whole = λ j a b. r.whole j (omega (arith, s.above i (omega (arith, r.last)))) b;
  }

  any_bound : (n m i e : ℕ) → Range w i e → e - i ≤ n → e - i ≤ m → forest_in n w p i e ≡ forest_in m w p i e
  unfolding forest_in
  any_bound zero zero i e r a b = refl
  any_bound zero (suc m) i e r a b = rw (le-ltb i e (omega arith), forest_in)
  any_bound (suc n) zero i e r a b = rw (le-ltb i e (omega arith), forest_in)
  any_bound (suc n) (suc m) i e r a b =
      elim (dec_lt i e) [
        | no k ↦ rw (le-ltb i e (omega arith), forest_in)
        | yes k ↦
            let hi : i < nodes w = omega (arith, r.last) in
            let up : i < end_at w i = s.above i hi in
            let to : end_at w i ≤ e = r.whole i (omega arith) k in
            let cs = any_bound n m (i + 1) (end_at w i) (children_range i hi) (omega arith) (omega arith) in
            let ts = any_bound n m (end_at w i) e (rest_range r k) (omega arith) (omega arith) in
            rw (lt-ltb i e k, forest_in) (ap₂ (λ c t. more (tree (head_at w p i) c) t) cs ts)
      ]

  -- a node: its tree, and those after it
  pub forest_more : {i e : ℕ} → Range w i e → i < e → forest w p i e ≡ more (tree_at w p i) (forest w p (end_at w i) e)
  unfolding forest tree_at forest_in
  forest_more {i} {e} r k =
      let hi : i < nodes w = omega (arith, r.last) in
      let up : i < end_at w i = s.above i hi in
      let to : end_at w i ≤ e = r.whole i (omega arith) k in
      any_bound (e - i) (suc (e - (i + 1))) i e r (omega arith) (omega arith)
      ∙ rw (lt-ltb i e k, forest_in)
      (ap₂ (λ c t. more (tree (head_at w p i) c) t)
      (any_bound (e - (i + 1)) (end_at w i - (i + 1)) (i + 1) (end_at w i) (children_range i hi) (omega arith) (omega arith))
      (any_bound (e - (i + 1)) (e - end_at w i) (end_at w i) e (rest_range r k) (omega arith) (omega arith)))

  -- a tree of a forest is not taller than the forest, nor are those after it
  pub tall_first : {i e : ℕ} → Range w i e → i < e → height (tree_at w p i) ≤ heights (forest w p i e)
  unfolding height
  tall_first r k = rw (forest_more r k) (omega arith)

  pub tall_rest : {i e : ℕ} → Range w i e → i < e → heights (forest w p (end_at w i) e) ≤ heights (forest w p i e)
  unfolding height
  tall_rest r k = rw (forest_more r k) (omega arith)

-- no node: no tree
no_tree : (w p : List ℕ) (n i e : ℕ) → e ≤ i → forest_in n w p i e ≡ none
unfolding forest_in
no_tree w p zero i e h = refl
no_tree w p (suc n) i e h = rw (le-ltb i e h, forest_in)

pub forest_none : (w p : List ℕ) {i e : ℕ} → e ≤ i → forest w p i e ≡ none
unfolding forest
forest_none w p {i} {e} h = no_tree w p (e - i) i e h

pub tall_below : (w p : List ℕ) (i : ℕ) → height (tree_at w p i) ≡ suc (heights (forest w p (i + 1) (end_at w i)))
unfolding height tree_at
tall_below w p i = refl
