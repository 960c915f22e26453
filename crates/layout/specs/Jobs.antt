-- What a printing function asks of the nodes that it is to print.
use Rattle.std.specs.Prelude.{◌≡◌, List, ℕ, ◌+◌, ◌-◌, ◌*◌, ◌≤◌, ◌<◌, length}
use Rattle.std.proofs.Common.{arith}
use Rattle.meaning.specs.Table.{nodes, kind_at, end_at, forest, tree_at}
use Rattle.tree_laws.specs.Height.{height, heights}
use Rattle.tree_laws.specs.Forest.{Shaped, Range, children_range, rest_range, tall_first, tall_rest, tall_below}
use Rattle.table.specs.Words.{InTable, TextInPool}
use Rattle.layout.specs.declared.Children.{Children}
use Rattle.layout.specs.Written.{ChildrenOf}

-- the trees of the nodes from i up to, not including, e, at most d levels high; no definition is among them
pub record Rest (w p : List ℕ) (i e d : ℕ) : Type 0 where
  pub range : Range w i e
  pub deep : heights (forest w p i e) ≤ d
  pub inner : (j : ℕ) → i ≤ j → j < e → 17 < kind_at w j

-- the children that are left are to be printed at level l
pub record Jobs (w p : List ℕ) (at : Children) (l : ℕ) : Type 0 where
  pub range : Range w at.next.0 at.end.0
  pub inner : (j : ℕ) → at.next.0 ≤ j → j < at.end.0 → 17 < kind_at w j
  pub level : l + heights (forest w p at.next.0 at.end.0) < 256

-- the tree of node i is to be printed at level l
pub record Job (w p : List ℕ) (i l : ℕ) : Type 0 where
  pub inside : i < nodes w
  pub below : (j : ℕ) → i < j → j < end_at w i → 17 < kind_at w j
  pub level : l + height (tree_at w p i) < 256

-- whole trees fill the nodes from i up to, not including, e
pub record Ranged (w p : List ℕ) (i e : ℕ) : Type 0 where
  pub shaped : Shaped w p
  pub range : Range w i e

pub ranged : {w p : List ℕ} {i e : ℕ} → Shaped w p → Range w i e → Ranged w p i e
ranged s r = record { shaped = s; range = r }

-- the nodes before e are the table's
pub record Within (w : List ℕ) (e : ℕ) : Type 0 where
  pub words : e * 5 ≤ length w
  pub few : e < 8193

pub within_node : {w : List ℕ} {i e : ℕ} → Within w e → i < e → InTable w i
within_node n h = record { words = omega (arith, n.words); few = omega (arith, n.few) }

-- ---- nodes of the table

module _ {w p : List ℕ} (s : Shaped w p) {i : ℕ} (h : i < nodes w) where
  pub in_table : InTable w i
  in_table = record { words = omega (arith, s.words); few = omega (arith, s.few) }

  pub has_text : TextInPool w p i
  has_text = record { node = in_table; in_pool = s.texts i h }

  -- its children
  pub own_children : {at : Children} → ChildrenOf w i at → Range w at.next.0 at.end.0
  own_children {at} c = rw (c.next, c.end) (children_range s i h)

pub inside : {w : List ℕ} {i e : ℕ} → Range w i e → i < e → i < nodes w
inside r h = omega (arith, r.last)

pub within : {w p : List ℕ} {i e : ℕ} → Shaped w p → Range w i e → Within w e
within s r = record { words = omega (arith, s.words, r.last); few = omega (arith, s.few, r.last) }

-- the next child of a range
module _ {w p : List ℕ} {i e : ℕ} (r : Ranged w p i e) where
  pub ranged_within : Within w e
  ranged_within = within r.shaped r.range

  module _ (h : i < e) where
    pub ranged_node : InTable w i
    ranged_node = in_table r.shaped (inside r.range h)

    pub ranged_text : TextInPool w p i
    ranged_text = has_text r.shaped (inside r.range h)

    pub ranged_children : {at : Children} → ChildrenOf w i at → Ranged w p at.next.0 at.end.0
    ranged_children c = ranged r.shaped (own_children r.shaped (inside r.range h) c)

    pub ranged_on : {k : ℕ} → k ≡ end_at w i → Ranged w p k e
    ranged_on at = rw at (ranged r.shaped (rest_range r.shaped r.range h))

    pub ranged_less : {k : ℕ} → k ≡ end_at w i → e - k < e - i
    ranged_less at = omega (arith, at, r.shaped.above i (inside r.range h))

-- ---- from a node to its children, from a child to the next

pub children_jobs : {w p : List ℕ} {i l : ℕ} {at : Children} → Shaped w p → Job w p i l → ChildrenOf w i at → Jobs w p at (l + 1)
children_jobs {w} {p} {i} {l} {at} s j c = record {
  range = own_children s j.inside c;
  inner = λ k a b. j.below k (omega (arith, c.next)) (omega (arith, c.end));
  level = rw (c.next, c.end) (omega (arith, j.level, tall_below w p i));
}

pub here : {w p : List ℕ} {at : Children} {l : ℕ} → Jobs w p at (l + 1) → Jobs w p at l
here j = record { range = j.range; inner = j.inner; level = omega (arith, j.level) }

pub first_job : {w p : List ℕ} {at : Children} {l : ℕ} → Shaped w p → Jobs w p at l → at.next.0 < at.end.0 → Job w p at.next.0 l
first_job {w} {p} {at} s j h =
    let r = j.range in
    record {
      inside = inside r h;
      below = λ k a b. j.inner k (omega arith) (omega (arith, r.whole at.next.0 (omega arith) h));
      level = omega (arith, j.level, tall_first s r h);
    }

pub rest_on : {w p : List ℕ} {i e d : ℕ} → Shaped w p → Rest w p i e d → i < e → Rest w p (end_at w i) e d
rest_on {w} {p} {i} {e} s r h =
    record {
      range = rest_range s r.range h;
      deep = omega (arith, r.deep, tall_rest s r.range h);
      inner = λ k a b. r.inner k (omega (arith, s.above i (inside r.range h))) b;
    }

pub later : {w p : List ℕ} {i e k : ℕ} → Shaped w p → Range w i e → i < e → k ≡ end_at w i → i < k
later {i = i} s r h at = omega (arith, at, s.above i (inside r h))

pub less_left : {w p : List ℕ} {i e k : ℕ} → Shaped w p → Range w i e → i < e → k ≡ end_at w i → e - k < e - i
less_left s r h at = omega (arith, later s r h at)
