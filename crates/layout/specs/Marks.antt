-- Whether an argument definition has a description or a directive, and whether one of several has: a turn and the end of each walk.
use Rattle.std.specs.Prelude.{refl, ◌≡◌, Bool, true, false, ◌||◌, List, ℕ, ◌+◌, ◌≤◌, ◌<◌}
use Rattle.std.proofs.Math.Path.{ap}
use Rattle.std.proofs.Common.{sym, ◌∙◌, ne_eqb}
use Rattle.meaning.specs.Table.{kind_at, end_at, head_at, forest, tree_at}
use Rattle.meaning.specs.Children.{Class, run}
use Rattle.meaning.specs.Layout.{child_in, is_mark, has_mark, any_marked}
use Rattle.tree_laws.specs.Forest.{Shaped, Range, forest_none, forest_more}
use Rattle.layout.specs.Kids.{kids, next_is}
use Rattle.layout.specs.Jobs.{Ranged}
use Rattle.layout.specs.Runs.{run_none, run_more}

-- the nodes from i up to e: one is a description or a directive
unfoldable pub mark_among : List ℕ → List ℕ → ℕ → ℕ → Bool
unfolding forest has_mark
mark_among w p i e = has_mark (forest w p i e)

pub mark_none : (w p : List ℕ) {i e : ℕ} → e ≤ i → mark_among w p i e ≡ false
unfolding mark_among
mark_none w p h = ap has_mark (forest_none w p h)

pub mark_more : {w p : List ℕ} (s : Shaped w p) {i e : ℕ} → Range w i e → i < e
    → mark_among w p i e ≡ is_mark (kind_at w i) || mark_among w p (end_at w i) e
unfolding mark_among tree_at head_at
mark_more s r h = ap has_mark (forest_more s r h)

-- the node has one among its children
unfoldable pub marked_at : List ℕ → List ℕ → ℕ → Bool
unfolding mark_among end_at
marked_at w p i = mark_among w p (i + 1) (end_at w i)

pub marked_at_lem : (w p : List ℕ) (i : ℕ) {k : ℕ} (b : Bool) → k ≡ end_at w i → b ≡ mark_among w p (i + 1) k → marked_at w p i ≡ b
unfolding marked_at
marked_at_lem w p i b at z = rw at at (sym z)

-- one of the leading children of the class has one
unfoldable pub marked_run : List ℕ → List ℕ → Class → ℕ → ℕ → Bool
unfolding kids run any_marked
marked_run w p c i e = any_marked (run child_in c (kids w p i e))

module _ {w p : List ℕ} {i e : ℕ} (j : Ranged w p i e) (c : Class) where
  pub marked_none : next_is w c i e ≡ false → marked_run w p c i e ≡ false
  unfolding marked_run any_marked
  marked_none z = ap any_marked (run_none j c z)

  pub marked_more : next_is w c i e ≡ true → marked_run w p c i e ≡ marked_at w p i || marked_run w p c (end_at w i) e
  unfolding marked_run marked_at mark_among any_marked tree_at
  marked_more z = ap any_marked (run_more j c z)

-- ---- the same by what the code tests

pub mark_here : {w p : List ℕ} {i e : ℕ} (j : Ranged w p i e) → i < e → is_mark (kind_at w i) ≡ true → true ≡ mark_among w p i e
mark_here {w} {p} {i} {e} j h z = sym (mark_more j.shaped j.range h ∙ rw z)

pub mark_later : {w p : List ℕ} {i e k : ℕ} (j : Ranged w p i e) → i < e → is_mark (kind_at w i) ≡ false → k ≡ end_at w i
    → mark_among w p k e ≡ mark_among w p i e
mark_later {w} {p} {i} {e} {k} j h z at = rw (mark_more j.shaped j.range h, z, at)

pub marked_here : {w p : List ℕ} {i e : ℕ} (j : Ranged w p i e) (c : Class) → next_is w c i e ≡ true → marked_at w p i ≡ true → true ≡ marked_run w p c i e
marked_here j c z m = sym (marked_more j c z ∙ rw m)

pub marked_later : {w p : List ℕ} {i e k : ℕ} (j : Ranged w p i e) (c : Class) → next_is w c i e ≡ true → marked_at w p i ≡ false
    → k ≡ end_at w i → marked_run w p c k e ≡ marked_run w p c i e
marked_later j c z m at = rw (marked_more j c z, m, at)

pub is_description : (k : ℕ) → k ≡ 18 → is_mark k ≡ true
is_description k e = rw e refl

pub is_directive : (k : ℕ) → (k ≡ 18 → ⊥) → k ≡ 19 → is_mark k ≡ true
is_directive k n e = rw e refl

pub is_neither : (k : ℕ) → (k ≡ 18 → ⊥) → (k ≡ 19 → ⊥) → is_mark k ≡ false
is_neither k n m = rw (ne_eqb k 18 n, ne_eqb k 19 m) refl
