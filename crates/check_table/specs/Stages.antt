-- One number after the other: a stage refuses at the first node with its fault, or leaves the answer to the next stage and tells it that
-- no node has the fault.
use Rattle.std.specs.Prelude.{◌≡◌, refl, Bool, true, false, not, List, ℕ, suc, ◌/◌, ◌%◌, ◌≤◌, ◌<◌, ltb, eqb, length}
use Rattle.std.proofs.Common.{sym, ◌∙◌, ap}
use native.Mathlib.Omega.{arith}
use borrow.Author.Tests.{lt-ltb, le-ltb, ltb-false, eq-eqb, ne_eqb}
use Rattle.std.proofs.Math.Bool.{or-false}
use Rattle.base.specs.Bools.{or_left_false, or_right_false}
use Rattle.meaning.specs.First.{first}
use Rattle.meaning.specs.Table.{nodes}
use Rattle.meaning.specs.Refusals.{size_fault, node_fault, nesting_fault, depth_fault, children_fault, text_fault, has_fault, lowest_from}
use Rattle.meaning.specs.Answers.{answer}
use Rattle.meaning.specs.Settings.{Settings, document_levels, settings_fault}
use Rattle.meaning.specs.Entries.{verdict_answer, checked_table, checked_document}
use Rattle.table_laws.specs.First.{first_is_first}
use Rattle.nodes.specs.Counted.{Counted}
use Rattle.table_laws.specs.Sound.{Sound, sound}
use Rattle.nesting.specs.Links.{EndsWithin}
use Rattle.depth.specs.Ends.{ProperEnds}
use Rattle.children.specs.Shaped.{Shaped}
use Rattle.texts.specs.Known.{KnownTexts}

-- what the first stage leaves to the later ones
pub record Ready (w p : List ℕ) (n : ℕ) : Type 0 where
  pub counted : Counted w n
  pub sound : Sound w p n

module _ {w p : List ℕ} {n : ℕ} (r : Ready w p n) where
  pub ends_within : EndsWithin w n
  ends_within = record { words = r.counted.words; few = r.counted.few; within = r.sound.within }

  pub proper_ends : ProperEnds w n
  proper_ends = record { words = r.counted.words; few = r.counted.few; after = r.sound.after; within = r.sound.within }

  pub shaped : Shaped w n
  shaped = record { nodes = record { words = r.counted.words; few = r.counted.few; known = r.sound.kind; onward = r.sound.after }; within = r.sound.within }

  pub known_texts : KnownTexts w p n
  known_texts = record { words = r.counted.words; few = r.counted.few; each = λ k h. record { kind = r.sound.kind k h; in_pool = r.sound.text k h } }

-- ---- a stage

module _ (w p : List ℕ) (k m n at : ℕ) (c : n ≡ nodes w) (e : at ≡ first (has_fault w p m) n) where
  here : first (has_fault w p m) (nodes w) ≡ at
  here = ap (first (has_fault w p m)) (sym c) ∙ sym e

  pub stage_refuses : at < n → answer m at 0 ≡ verdict_answer (lowest_from (suc k) m w p)
  unfolding lowest_from
  stage_refuses h = rw (here, lt-ltb at (nodes w) (omega arith))

  pub stage_passes : n ≤ at → verdict_answer (lowest_from k (suc m) w p) ≡ verdict_answer (lowest_from (suc k) m w p)
  unfolding lowest_from
  stage_passes h = rw (here, le-ltb at (nodes w) (omega arith))

-- ---- the size, a test at a time

module _ (w p : List ℕ) where
  pub words_left_over : (length w % 5 ≡ 0 → ⊥) → true ≡ size_fault w p
  unfolding size_fault
  words_left_over h = rw (ne_eqb (length w % 5) 0 h)

  module _ (a : length w % 5 ≡ 0) where
    pub no_node : length w / 5 ≡ 0 → true ≡ size_fault w p
    unfolding size_fault
    no_node h = rw (eq-eqb (length w % 5) 0 a, eq-eqb (length w / 5) 0 h)

    module _ (b : length w / 5 ≡ 0 → ⊥) where
      pub too_many_nodes : 8192 < length w / 5 → true ≡ size_fault w p
      unfolding size_fault
      too_many_nodes h = rw (eq-eqb (length w % 5) 0 a, ne_eqb (length w / 5) 0 b, lt-ltb 8192 (length w / 5) h)

      pub pool_tells : length w / 5 ≤ 8192 → ltb 65536 (length p) ≡ size_fault w p
      unfolding size_fault
      pool_tells h = rw (eq-eqb (length w % 5) 0 a, ne_eqb (length w / 5) 0 b, le-ltb 8192 (length w / 5) h) (sym (or-false (ltb 65536 (length p))))

  pub counted : (f : Bool) → f ≡ size_fault w p → f ≡ false → Counted w (length w / 5)
  unfolding size_fault nodes
  counted f e z =
      let later = or_right_false (not (eqb (length w % 5) 0)) _ (sym e ∙ z) in
      let few = ltb-false 8192 (length w / 5) (or_left_false (ltb 8192 (length w / 5)) _ (or_right_false (eqb (length w / 5) 0) _ later)) in
      record { is = refl; words = omega arith; few = omega arith }

  pub refuses_size : (f : Bool) → f ≡ size_fault w p → f ≡ true → answer 2 0 0 ≡ checked_table w p
  unfolding checked_table
  refuses_size f e t = rw (sym e ∙ t)

  pub leaves_nodes : (f : Bool) → f ≡ size_fault w p → f ≡ false → verdict_answer (lowest_from 5 3 w p) ≡ checked_table w p
  unfolding checked_table
  leaves_nodes f e z = rw (sym e ∙ z)

-- ---- which fault a number is

module _ (w p : List ℕ) (n at : ℕ) where
  pub by_node : at ≡ first (node_fault w p) n → at ≡ first (has_fault w p 3) n
  unfolding has_fault
  by_node e = e

  pub by_nesting : at ≡ first (nesting_fault w) n → at ≡ first (has_fault w p 4) n
  unfolding has_fault
  by_nesting e = e

  pub by_depth : at ≡ first (depth_fault w) n → at ≡ first (has_fault w p 5) n
  unfolding has_fault
  by_depth e = e

  pub by_children : at ≡ first (children_fault w) n → at ≡ first (has_fault w p 6) n
  unfolding has_fault
  by_children e = e

  pub by_text : at ≡ first (text_fault w p) n → at ≡ first (has_fault w p 7) n
  unfolding has_fault
  by_text e = e

  -- where the first stage passes, the later ones are ready
  pub ready : Counted w n → at ≡ first (node_fault w p) n → n ≤ at → Ready w p n
  ready c e h = record { counted = c; sound = sound c.is (λ k l. (first_is_first (node_fault w p) n).before k (omega (arith, e))) }

pub all_passed : (m : ℕ) (w p : List ℕ) → answer 0 0 0 ≡ verdict_answer (lowest_from 0 m w p)
unfolding lowest_from
all_passed m w p = refl

-- ---- settings first

module _ (s : Settings) (w p : List ℕ) (f : Bool) (e : f ≡ settings_fault document_levels s) where
  pub refuses_settings : f ≡ true → answer 1 0 0 ≡ checked_document s w p
  unfolding checked_document
  refuses_settings t = rw (sym e ∙ t)

  pub leaves_table : f ≡ false → checked_table w p ≡ checked_document s w p
  unfolding checked_document
  leaves_table z = rw (sym e ∙ z)
