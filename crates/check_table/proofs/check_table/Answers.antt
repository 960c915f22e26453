-- Number 2, and then the stages of 3 to 7: each refuses, or leaves the answer to the next.
use Rattle.std.proofs.Common.{◌≡◌, refl, ◌∙◌, le_refl, Bool, List, ℕ, suc, ◌/◌, ◌<◌, false, length}
use Rattle.meaning.specs.Answers.{answer}
use Rattle.meaning.specs.First.{first}
use Rattle.meaning.specs.Refusals.{size_fault, node_fault, nesting_fault, depth_fault, children_fault, text_fault, has_fault, lowest_from}
use Rattle.meaning.specs.Entries.{verdict_answer, checked_table}
use Rattle.nodes.specs.Counted.{Counted}
use Rattle.check_table.specs.Stages.{Ready, counted, ready, ends_within, proper_ends, shaped, stage_refuses, stage_passes, by_node, by_nesting, by_depth, by_children, by_text, known_texts, all_passed, refuses_size, leaves_nodes}
use Rattle.check_table.proofs.check_table.Goals as goal

-- k numbers are left to ask for, from m on
abbrev Left : List ℕ → List ℕ → ℕ → ℕ → Type 0
Left w p k m = verdict_answer (lowest_from k m w p) ≡ checked_table w p

-- no node has the fault
abbrev None : List ℕ → (ℕ → Bool) → Type 0
None w fault = length w / 5 ≡ first fault (length w / 5)

module _ (w p : List ℕ) (fine : false ≡ size_fault w p) where
  count : Counted w (length w / 5)
  count = counted w p false fine refl

  refuse : (k m : ℕ) {at : ℕ} → Left w p (suc k) m → at ≡ first (has_fault w p m) (length w / 5) → at < length w / 5 → answer m at 0 ≡ checked_table w p
  refuse k m left e l = stage_refuses w p k m (length w / 5) _ count.is e l ∙ left

  pass : (k m : ℕ) → Left w p (suc k) m → None w (has_fault w p m) → Left w p k (suc m)
  pass k m left e = stage_passes w p k m (length w / 5) (length w / 5) count.is e (le_refl _) ∙ left

  from_nodes : Left w p 5 3
  from_nodes = leaves_nodes w p false fine refl

  module _ (nodes : None w (node_fault w p)) where
    is_ready : Ready w p (length w / 5)
    is_ready = ready w p (length w / 5) (length w / 5) count nodes (le_refl _)

    from_nesting : Left w p 4 4
    from_nesting = pass 4 3 from_nodes (by_node w p _ _ nodes)

    module _ (nesting : None w (nesting_fault w)) where
      from_depth : Left w p 3 5
      from_depth = pass 3 4 from_nesting (by_nesting w p _ _ nesting)

      module _ (depth : None w (depth_fault w)) where
        from_children : Left w p 2 6
        from_children = pass 2 5 from_depth (by_depth w p _ _ depth)

        module _ (children : None w (children_fault w)) where
          from_texts : Left w p 1 7
          from_texts = pass 1 6 from_children (by_children w p _ _ children)

          all_numbers : None w (text_fault w p) → answer 0 0 0 ≡ checked_table w p
          all_numbers e = all_passed 8 w p ∙ pass 0 7 from_texts (by_text w p _ _ e)

pub returns-then-size_fault : goal.returns-then-size_fault
returns-then-size_fault c = refuses_size _ _ _ c.size_fault.ensures c.if-size_fault.true

pub first_node_fault-requires : goal.first_node_fault-requires
first_node_fault-requires c = count _ _ c.if-size_fault.ensures

pub returns-in-Some : goal.returns-in-Some
returns-in-Some c =
    let fine = c.if-size_fault.ensures in
    let found = c.in-Some.ensures in
    refuse _ _ fine 4 3 (from_nodes _ _ fine) (by_node _ _ _ _ found.place) found.within

pub first_nesting_fault-requires : goal.first_nesting_fault-requires
first_nesting_fault-requires c = ends_within (is_ready _ _ c.if-size_fault.ensures c.in_default.ensures.place)

pub returns-in-Some-first_nesting_fault : goal.returns-in-Some-first_nesting_fault
returns-in-Some-first_nesting_fault c =
    let fine = c.if-size_fault.ensures in
    let found = c.in-Some-first_nesting_fault.ensures in
    refuse _ _ fine 3 4 (from_nesting _ _ fine c.in_default.ensures.place) (by_nesting _ _ _ _ found.place) found.within

pub first_depth_fault-requires : goal.first_depth_fault-requires
first_depth_fault-requires c = proper_ends (is_ready _ _ c.if-size_fault.ensures c.in_default.ensures.place)

pub returns-in-Some-first_depth_fault : goal.returns-in-Some-first_depth_fault
returns-in-Some-first_depth_fault c =
    let fine = c.if-size_fault.ensures in
    let nesting = c.in_default-first_nesting_fault.ensures.place in
    let found = c.in-Some-first_depth_fault.ensures in
    refuse _ _ fine 2 5 (from_depth _ _ fine c.in_default.ensures.place nesting) (by_depth _ _ _ _ found.place) found.within

pub first_children_fault-requires : goal.first_children_fault-requires
first_children_fault-requires c = shaped (is_ready _ _ c.if-size_fault.ensures c.in_default.ensures.place)

pub returns-in-Some-first_children_fault : goal.returns-in-Some-first_children_fault
returns-in-Some-first_children_fault c =
    let fine = c.if-size_fault.ensures in
    let nesting = c.in_default-first_nesting_fault.ensures.place in
    let depth = c.in_default-first_depth_fault.ensures.place in
    let found = c.in-Some-first_children_fault.ensures in
    refuse _ _ fine 1 6 (from_children _ _ fine c.in_default.ensures.place nesting depth) (by_children _ _ _ _ found.place) found.within

pub first_text_fault-requires : goal.first_text_fault-requires
first_text_fault-requires c = known_texts (is_ready _ _ c.if-size_fault.ensures c.in_default.ensures.place)

pub returns-in-Some-first_text_fault : goal.returns-in-Some-first_text_fault
returns-in-Some-first_text_fault c =
    let fine = c.if-size_fault.ensures in
    let nesting = c.in_default-first_nesting_fault.ensures.place in
    let depth = c.in_default-first_depth_fault.ensures.place in
    let children = c.in_default-first_children_fault.ensures.place in
    let found = c.in-Some-first_text_fault.ensures in
    refuse _ _ fine 0 7 (from_texts _ _ fine c.in_default.ensures.place nesting depth children) (by_text _ _ _ _ found.place) found.within

pub returns : goal.returns
returns c =
    let nesting = c.in_default-first_nesting_fault.ensures.place in
    let depth = c.in_default-first_depth_fault.ensures.place in
    let children = c.in_default-first_children_fault.ensures.place in
    let texts = c.in_default-first_text_fault.ensures.place in
    all_numbers _ _ c.if-size_fault.ensures c.in_default.ensures.place nesting depth children texts
