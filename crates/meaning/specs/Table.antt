-- Document 01, "The node table": "A slice of u32, five words a node, in preorder: kind, variant, text start, text length, end.
-- `end` is the number of the first node after the subtree. Text lies in a byte pool."
use Rattle.std.specs.Prelude.{ℕ, zero, suc, ◌+◌, ◌-◌, ◌*◌, ◌/◌, true, false, List, [], ◌∷◌, length, get_or, take, drop, ltb}
use Rattle.meaning.specs.Tree.{Head, Tree, tree, Forest, none, more}

abbrev pub words_per_node : ℕ
words_per_node = 5

unfoldable pub nodes : List ℕ → ℕ
nodes w = length w / words_per_node

unfoldable pub word : ℕ → List ℕ → ℕ → ℕ
word f w i = get_or w (i * words_per_node + f) 0

unfoldable pub kind_at : List ℕ → ℕ → ℕ
unfolding word
kind_at w i = word 0 w i

unfoldable pub variant_at : List ℕ → ℕ → ℕ
unfolding word
variant_at w i = word 1 w i

unfoldable pub start_at : List ℕ → ℕ → ℕ
unfolding word
start_at w i = word 2 w i

unfoldable pub length_at : List ℕ → ℕ → ℕ
unfolding word
length_at w i = word 3 w i

unfoldable pub end_at : List ℕ → ℕ → ℕ
unfolding word
end_at w i = word 4 w i

-- a node's text: the bytes of the pool that it names
unfoldable pub text_at : List ℕ → List ℕ → ℕ → List ℕ
unfolding start_at length_at
text_at w p i = take (length_at w i) (drop (start_at w i) p)

unfoldable pub head_at : List ℕ → List ℕ → ℕ → Head
unfolding kind_at variant_at text_at
head_at w p i = record { kind = kind_at w i; variant = variant_at w i; text = text_at w p i }

-- the trees of the nodes from i up to, not including, e; each is followed by the node at which it ends. The first number bounds
-- how many nodes are visited.
unfoldable pub forest_in : ℕ → List ℕ → List ℕ → ℕ → ℕ → Forest
unfolding head_at end_at
forest_in zero w p i e = none
forest_in (suc n) w p i e =
    elim (ltb i e) [
      | true ↦ more (tree (head_at w p i) (forest_in n w p (i + 1) (end_at w i))) (forest_in n w p (end_at w i) e)
      | false ↦ none
    ]

unfoldable pub forest : List ℕ → List ℕ → ℕ → ℕ → Forest
unfolding forest_in
forest w p i e = forest_in (e - i) w p i e

unfoldable pub tree_at : List ℕ → List ℕ → ℕ → Tree
unfolding head_at forest end_at
tree_at w p i = tree (head_at w p i) (forest w p (i + 1) (end_at w i))

-- the tree that a table and its pool stand for
unfoldable pub tree_of : List ℕ → List ℕ → Tree
unfolding tree_at
tree_of w p = tree_at w p 0

-- the numbers of a node's children: each child is followed by the node at which it ends
unfoldable pub siblings : ℕ → List ℕ → ℕ → ℕ → List ℕ
unfolding end_at
siblings zero w i e = []
siblings (suc n) w i e = elim (ltb i e) [ true ↦ i ∷ siblings n w (end_at w i) e | false ↦ [] ]

unfoldable pub children_at : List ℕ → ℕ → List ℕ
unfolding siblings end_at
children_at w i = siblings (end_at w i - i) w (i + 1) (end_at w i)
