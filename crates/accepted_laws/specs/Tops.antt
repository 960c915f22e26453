-- The Document's children are definitions: each sibling from node 1 on is of a kind from 1 to 17.
use Rattle.std.specs.Prelude.{◌≡◌, true, List, [], ◌∷◌, ℕ, zero, suc, ◌-◌, ◌≤◌, ◌<◌, leb}
use Rattle.std.proofs.Common.{arith, leb-true}
use Rattle.base.specs.Bools.{and_left, and_right}
use Rattle.meaning.specs.Table.{kind_at, end_at, siblings, children_at}
use Rattle.meaning.specs.Children.{definition, is_in, any, row_of}
use Rattle.meaning.specs.Refusals.{node_in, Accepted}
use Rattle.tree_laws.specs.Forest.{Range}
use Rattle.accepted_laws.specs.Shape.{accepted_some_node, accepted_document}
use Rattle.accepted_laws.specs.Inside.{Each, filled_each, listed, no_children_fault, first_sibling}

abbrev IsDefinition : List ℕ → ℕ → Type 0
IsDefinition w i = (1 ≤ kind_at w i) × (kind_at w i ≤ 17)

-- the siblings from i up to e are definitions; `most` bounds how many there are
pub record Definitions (w : List ℕ) (i e : ℕ) : Type 0 where
  pub most : ℕ
  pub enough : e - i ≤ most
  pub each : Each (IsDefinition w) (siblings most w i e)

module _ {w : List ℕ} {i e : ℕ} (x : Definitions w i e) (h : i < e) where
  split : (n : ℕ) → e - i ≤ n → Each (IsDefinition w) (siblings n w i e) → IsDefinition w i × Each (IsDefinition w) (siblings (n - 1) w (end_at w i) e)
  split zero l y = absurd (omega arith)
  split (suc n) l y =
      let z : suc n - 1 ≡ n = omega arith in
      rw z (rw (first_sibling n w i e h) at y)

  pub is_definition : (1 ≤ kind_at w i) × (kind_at w i ≤ 17)
  is_definition = (split x.most x.enough x.each).0

  pub later_ones : Range w i e → i < end_at w i → Definitions w (end_at w i) e
  later_ones r u = record { most = x.most - 1; enough = omega (arith, x.enough); each = (split x.most x.enough x.each).1 }

definition_kind : (w : List ℕ) (i : ℕ) → node_in w definition i ≡ true → IsDefinition w i
unfolding node_in is_in
definition_kind w i e = (
  leb-true 1 (kind_at w i) (and_left (leb 1 (kind_at w i)) (leb (kind_at w i) 17) e),
  leb-true (kind_at w i) 17 (and_right (leb 1 (kind_at w i)) (leb (kind_at w i) 17) e),
)

pub all_definitions : {w p : List ℕ} → Accepted w p → Definitions w 1 (end_at w 0)
unfolding children_at row_of
all_definitions {w} {p} ok = record {
  most = end_at w 0 - 0;
  enough = omega arith;
  each = filled_each (node_in w) (IsDefinition w) (any definition ∷ []) (definition_kind w, tt) (children_at w 0)
      (rw (accepted_document ok) at (listed w 0 (no_children_fault ok 0 (accepted_some_node ok))));
}
