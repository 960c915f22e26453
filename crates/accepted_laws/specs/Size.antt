-- The tree of an accepted table has as many nodes as the table, and no text of more than 65,536 bytes: node 0 ends the table, and each
-- text is a part of the pool.
use Rattle.std.specs.Prelude.{◌≡◌, List, ℕ, ◌≤◌}
use Rattle.std.proofs.Common.{arith}
use Rattle.meaning.specs.Table.{nodes, tree_of}
use Rattle.meaning.specs.Refusals.{Accepted}
use Rattle.tree_laws.specs.Size.{size, longest, size_of_tree, longest_of_tree}
use Rattle.accepted_laws.specs.Shape.{accepted_shaped, accepted_pool, accepted_some_node, accepted_whole}

module _ {w p : List ℕ} (ok : Accepted w p) where
  pub accepted_size : size (tree_of w p) ≡ nodes w
  unfolding tree_of
  accepted_size = omega (arith, size_of_tree (accepted_shaped ok) 0 (accepted_some_node ok), accepted_whole ok)

  pub accepted_texts : longest (tree_of w p) ≤ 65536
  unfolding tree_of
  accepted_texts = omega (arith, longest_of_tree (accepted_shaped ok) 0 (accepted_some_node ok), accepted_pool ok)
