-- The children of a range of nodes, as the layout's rules see them: the first and those after it, and whether the next is of a class.
use Rattle.std.specs.Prelude.{◌≡◌, Bool, false, ◌&&◌, List, [], ◌∷◌, ℕ, ◌≤◌, ◌<◌, ltb}
use Rattle.std.proofs.Common.{ap, sym, ◌∙◌, lt-ltb, le-ltb}
use Rattle.meaning.specs.Table.{kind_at, variant_at, end_at, head_at, forest, tree_at}
use Rattle.meaning.specs.Children.{Class, is_in}
use Rattle.meaning.specs.Layout.{Child, marks, node_text, children}
use Rattle.tree_laws.specs.Forest.{Shaped, Range, forest_none, forest_more}

-- the children that are the trees from node i up to, not including, e
unfoldable pub kids : List ℕ → List ℕ → ℕ → ℕ → List Child
unfolding forest children
kids w p i e = children (forest w p i e)

-- node i as a child
abbrev pub child_at : List ℕ → List ℕ → ℕ → Child
child_at w p i = record { head = head_at w p i; marked = marks (tree_at w p i); said = node_text (tree_at w p i) }

pub kids_none : (w p : List ℕ) {i e : ℕ} → e ≤ i → kids w p i e ≡ []
unfolding kids
kids_none w p h = ap children (forest_none w p h)

pub kids_more : {w p : List ℕ} (s : Shaped w p) {i e : ℕ} → Range w i e → i < e → kids w p i e ≡ child_at w p i ∷ kids w p (end_at w i) e
unfolding kids tree_at
kids_more s r h = ap children (forest_more s r h)

-- there is a node i before e, and it is of the class
unfoldable pub next_is : List ℕ → Class → ℕ → ℕ → Bool
unfolding kind_at variant_at is_in
next_is w c i e = ltb i e && is_in c (kind_at w i) (variant_at w i)

pub next_none : (w : List ℕ) (c : Class) {i e : ℕ} → e ≤ i → next_is w c i e ≡ false
unfolding next_is
next_none w c {i} {e} h = rw (le-ltb i e h)

pub next_some : (w : List ℕ) (c : Class) {i e : ℕ} → i < e → next_is w c i e ≡ is_in c (kind_at w i) (variant_at w i)
unfolding next_is
next_some w c {i} {e} h = rw (lt-ltb i e h)

-- the test of a kind tells
pub kind_tells_next : (w : List ℕ) (c : Class) (i e k : ℕ) (b : Bool) → i < e → k ≡ kind_at w i → ((v : ℕ) → b ≡ is_in c k v) → b ≡ next_is w c i e
kind_tells_next w c i e k b h at f = f (variant_at w i) ∙ ap (λ (n : ℕ). is_in c n (variant_at w i)) at ∙ sym (next_some w c h)
