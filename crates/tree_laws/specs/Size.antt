-- How many nodes a tree has, and how long its longest text is. The trees of a range of a table have as many nodes as the range, and no
-- text longer than the pool, of which each is a part.
use Rattle.std.specs.Prelude.{◌≡◌, List, length, drop}
use Rattle.std.proofs.Math.Path.{refl}
use Prim.Native.Nat.{ℕ, zero, suc, max, ◌+◌, ◌-◌, ◌≤◌, ◌<◌}
use native.Mathlib.Omega.{arith}
use Rattle.std.proofs.Math.Decide.{dec_lt}
use Rattle.std.proofs.Common.{length-take, length-drop}
use Rattle.meaning.specs.Tree.{Tree, tree, Forest, none, more}
use Rattle.meaning.specs.Table.{nodes, start_at, length_at, end_at, text_at, forest, tree_at}
use Rattle.tree_laws.specs.Forest.{Shaped, Range, children_range, rest_range, forest_more, forest_none}

unfoldable mutual
  pub size : Tree → ℕ
  size (tree h f) = suc (sizes f)

  pub sizes : Forest → ℕ
  sizes none = 0
  sizes (more t f) = size t + sizes f

unfoldable mutual
  pub longest : Tree → ℕ
  longest (tree h f) = max (length h.text) (longests f)

  pub longests : Forest → ℕ
  longests none = 0
  longests (more t f) = max (longest t) (longests f)

text_in_pool : (w p : List ℕ) (i : ℕ) → length (text_at w p i) ≤ length p
unfolding text_at
text_in_pool w p i = omega (arith, length-take (length_at w i) (drop (start_at w i) p), length-drop (start_at w i) p)

module _ (w p : List ℕ) (i : ℕ) where
  size_below : size (tree_at w p i) ≡ suc (sizes (forest w p (i + 1) (end_at w i)))
  unfolding size tree_at
  size_below = refl

  longest_below : longest (tree_at w p i) ≤ max (length p) (longests (forest w p (i + 1) (end_at w i)))
  unfolding longest tree_at
  longest_below = omega (arith, text_in_pool w p i)

module _ {w p : List ℕ} (s : Shaped w p) where
  -- n bounds how many nodes there are
  sizes_in : (n i e : ℕ) → Range w i e → e - i ≤ n → i + sizes (forest w p i e) ≡ e
  unfolding size
  sizes_in zero i e r b = let o : e ≤ i = omega arith in rw (forest_none w p o) (omega (arith, r.order))
  sizes_in (suc n) i e r b =
      elim (dec_lt i e) [
        | no k ↦ let o : e ≤ i = omega arith in rw (forest_none w p o) (omega (arith, r.order))
        | yes k ↦
            let hi : i < nodes w = omega (arith, r.last) in
            let up : i < end_at w i = s.above i hi in
            let to : end_at w i ≤ e = r.whole i (omega arith) k in
            let below = sizes_in n (i + 1) (end_at w i) (children_range s i hi) (omega arith) in
            let after = sizes_in n (end_at w i) e (rest_range s r k) (omega arith) in
            rw (forest_more s r k) (omega (arith, size_below w p i))
      ]

  longests_in : (n i e : ℕ) → Range w i e → e - i ≤ n → longests (forest w p i e) ≤ length p
  unfolding longest
  longests_in zero i e r b = let o : e ≤ i = omega arith in rw (forest_none w p o) (omega arith)
  longests_in (suc n) i e r b =
      elim (dec_lt i e) [
        | no k ↦ let o : e ≤ i = omega arith in rw (forest_none w p o) (omega arith)
        | yes k ↦
            let hi : i < nodes w = omega (arith, r.last) in
            let up : i < end_at w i = s.above i hi in
            let to : end_at w i ≤ e = r.whole i (omega arith) k in
            let below = longests_in n (i + 1) (end_at w i) (children_range s i hi) (omega arith) in
            let after = longests_in n (end_at w i) e (rest_range s r k) (omega arith) in
            rw (forest_more s r k) (omega (arith, longest_below w p i))
      ]

  pub size_of_tree : (i : ℕ) → i < nodes w → i + size (tree_at w p i) ≡ end_at w i
  size_of_tree i h =
      let below = sizes_in (end_at w i) (i + 1) (end_at w i) (children_range s i h) (omega arith) in
      omega (arith, size_below w p i)

  pub longest_of_tree : (i : ℕ) → i < nodes w → longest (tree_at w p i) ≤ length p
  longest_of_tree i h =
      let below = longests_in (end_at w i) (i + 1) (end_at w i) (children_range s i h) (omega arith) in
      omega (arith, longest_below w p i)
