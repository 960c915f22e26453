-- Document 01: "Pool bytes that no node names never matter: equal-length pools agreeing on all named ranges give equal answers", for
-- printing. The verdicts are equal, and a table that is accepted stands for one tree, which holds nothing of a pool but those ranges.
use Prim.Native.Nat.{ℕ, zero, suc, ◌+◌, ◌-◌, ◌≤◌, ◌<◌}
use Rattle.std.specs.Prelude.{◌≡◌, Bool, true, false, List, length, if◌then◌else◌}
use Rattle.std.proofs.Math.Path.{refl}
use native.Mathlib.Omega.{arith}
use Rattle.std.proofs.Math.Decide.{dec_lt}
use Rattle.std.proofs.Common.{lt-ltb, le-ltb}
use Rattle.meaning.specs.Table.{nodes, text_at, end_at, head_at, forest_in, forest, tree_at, tree_of}
use Rattle.meaning.specs.Settings.{Settings, document_levels, settings_fault}
use Rattle.meaning.specs.Refusals.{Accepted, Verdict, accepted, refusal, verdict, Right}
use Rattle.meaning.specs.Layout.{document_text}
use Rattle.meaning.specs.Entries.{refusing, printed_of, printed_document}
use Rattle.table_laws.specs.Exactly.{verdict_is_right}
use Rattle.table_laws.specs.Pool.{pool_bytes_never_matter}
use Rattle.tree_laws.specs.Forest.{Shaped}
use Rattle.accepted_laws.specs.Shape.{accepted_shaped, accepted_some_node}

module _ (w p q : List ℕ) (named : (i : ℕ) → i < nodes w → text_at w p i ≡ text_at w q i) where
  head_alike : (i : ℕ) → i < nodes w → head_at w p i ≡ head_at w q i
  unfolding head_at
  head_alike i h = rw (named i h)

  -- ends lie within the table, so every node that is visited has its text in both pools
  forest_alike : Shaped w p → (n i e : ℕ) → e ≤ nodes w → forest_in n w p i e ≡ forest_in n w q i e
  unfolding forest_in
  forest_alike s zero i e l = refl
  forest_alike s (suc n) i e l =
      elim (dec_lt i e) [
        | no k ↦ rw (le-ltb i e (omega arith), forest_in)
        | yes k ↦
            let h : i < nodes w = omega arith in
            rw (lt-ltb i e k, forest_in, head_alike i h, forest_alike s n (i + 1) (end_at w i) (s.within i h), forest_alike s n (end_at w i) e l)
      ]

  pub tree_alike : Accepted w p → tree_of w p ≡ tree_of w q
  unfolding tree_of tree_at forest
  tree_alike ok =
      let h = accepted_some_node ok in
      let s = accepted_shaped ok in
      rw (head_alike 0 h, forest_alike s (end_at w 0 - 1) 1 (end_at w 0) (s.within 0 h))

pub printed_alike : (s : Settings) (w p q out : List ℕ) → length p ≡ length q → ((i : ℕ) → i < nodes w → text_at w p i ≡ text_at w q i)
    → printed_document s w p out ≡ printed_document s w q out
unfolding printed_document
printed_alike s w p q out size named =
    rw (← pool_bytes_never_matter w p q size named) (go (settings_fault document_levels s) (verdict w p) (verdict_is_right w p))
  where
    of_verdict : (v : Verdict) → Right w p v → printed_of v (document_text s (tree_of w p)) out ≡ printed_of v (document_text s (tree_of w q)) out
    of_verdict accepted ok = rw (tree_alike w p q named ok)
    of_verdict (refusal m i) r = refl

    go : (f : Bool) (v : Verdict) → Right w p v
        → (if f then refusing 1 0 out else printed_of v (document_text s (tree_of w p)) out)
        ≡ (if f then refusing 1 0 out else printed_of v (document_text s (tree_of w q)) out)
    go true v r = refl
    go false v r = of_verdict v r
