-- What an accepted table is, read off its tests: it has nodes, but few, and a small pool; node 0 is the Document and ends it; texts lie
-- in the pool and ends nest. Each line is one test of refusals 2 to 5 that is false.
use Rattle.std.specs.Prelude.{◌≡◌, refl, false, not, ◌&&◌, ◌||◌, List, ℕ, ◌%◌, ◌*◌, ◌≤◌, ◌<◌, eqb, ltb, length}
use Rattle.std.proofs.Common.{arith, lt-ltb, ltb-false}
use Rattle.std.proofs.lemmas.Bool.{eqb-false}
use Rattle.base.specs.Bools.{or_left_false, or_right_false}
use Rattle.meaning.specs.Kind
use Rattle.meaning.specs.Table.{nodes, kind_at, end_at}
use Rattle.meaning.specs.Refusals.{size_fault, node_fault, nesting_fault, deepest, depth_at, depth_fault, has_fault, Accepted}
use Rattle.table_laws.specs.First.{some_none}
use Rattle.tree_laws.specs.Forest.{Shaped}
use Rattle.table_laws.specs.Sound.{Sound, sound}

-- ---- the tests

module _ (w p : List ℕ) (fine : size_fault w p ≡ false) where
  from_second : eqb (nodes w) 0 || (ltb 8192 (nodes w) || (ltb 65536 (length p) || false)) ≡ false
  unfolding size_fault
  from_second = or_right_false (not (eqb (length w % 5) 0)) _ fine

  from_third : ltb 8192 (nodes w) || (ltb 65536 (length p) || false) ≡ false
  from_third = or_right_false (eqb (nodes w) 0) _ from_second

  some_node : 0 < nodes w
  some_node = omega (arith, eqb-false (nodes w) 0 (or_left_false (eqb (nodes w) 0) _ from_second))

  few_nodes : nodes w < 8193
  few_nodes = omega (arith, ltb-false 8192 (nodes w) (or_left_false (ltb 8192 (nodes w)) _ from_third))

  small_pool : length p ≤ 65536
  small_pool = ltb-false 65536 (length p) (or_left_false (ltb 65536 (length p)) false (or_right_false (ltb 8192 (nodes w)) _ from_third))

enough_words : (w : List ℕ) → nodes w * 5 ≤ length w
unfolding nodes
enough_words w = omega arith

-- no later node inside a subtree ends after it
ends_nest : (w : List ℕ) (i j : ℕ) → nesting_fault w i ≡ false → i < j → j < end_at w i → end_at w j ≤ end_at w i
unfolding nesting_fault
ends_nest w i j e a b =
    let z = some_none (λ k. ltb i k && ltb (end_at w i) (end_at w k)) e j b in
    ltb-false (end_at w i) (end_at w j) (rw (lt-ltb i j a) at z)

not_deeper : (w : List ℕ) (i : ℕ) → depth_fault w i ≡ false → depth_at w i ≤ deepest
unfolding depth_fault
not_deeper w i e = ltb-false deepest (depth_at w i) e

-- ---- the tests of an accepted table

module _ {w p : List ℕ} (ok : Accepted w p) where
  no_node_fault : (i : ℕ) → i < nodes w → node_fault w p i ≡ false
  unfolding has_fault
  no_node_fault = ok.none 3

  no_nesting_fault : (i : ℕ) → i < nodes w → nesting_fault w i ≡ false
  unfolding has_fault
  no_nesting_fault = ok.none 4

  no_depth_fault : (i : ℕ) → i < nodes w → depth_fault w i ≡ false
  unfolding has_fault
  no_depth_fault = ok.none 5

  pub accepted_sound : Sound w p (nodes w)
  accepted_sound = sound refl no_node_fault

  pub accepted_shaped : Shaped w p
  accepted_shaped = record {
    words = enough_words w;
    few = few_nodes w p ok.size_fine;
    texts = accepted_sound.text;
    above = accepted_sound.after;
    within = accepted_sound.within;
    nested = λ i j h. ends_nest w i j (no_nesting_fault i h);
  }

  pub accepted_depth : (i : ℕ) → i < nodes w → depth_at w i ≤ deepest
  accepted_depth i h = not_deeper w i (no_depth_fault i h)

  pub accepted_pool : length p ≤ 65536
  accepted_pool = small_pool w p ok.size_fine

  -- there is a node 0; it is the Document, and ends the table
  pub accepted_some_node : 0 < nodes w
  accepted_some_node = some_node w p ok.size_fine

  pub accepted_document : kind_at w 0 ≡ Kind.document
  accepted_document = accepted_sound.document accepted_some_node

  pub accepted_whole : end_at w 0 ≡ nodes w
  accepted_whole = accepted_sound.whole accepted_some_node

  pub accepted_kind : (i : ℕ) → i < nodes w → kind_at w i < Kind.count
  accepted_kind = accepted_sound.kind
