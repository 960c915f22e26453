-- Printing a document asks for the output's length only once there is a text: a refusal other than 8 is the same for every output. So
-- what holds of any text that is written holds of documents.
use Prim.Native.Nat.{ℕ, ◌≤◌}
use Rattle.std.specs.Prelude.{◌≡◌, refl, Bool, true, false, length, if◌then◌else◌}
use Rattle.std.proofs.Common.{inl, inr, arith}
use mathlib.Core.List.{List}
use Rattle.base.specs.Bools.{clash}
use Rattle.meaning.specs.Table.{tree_of}
use Rattle.meaning.specs.Settings.{Settings, document_levels, settings_fault}
use Rattle.meaning.specs.Refusals.{Verdict, accepted, refusal, verdict, has_fault, Right}
use Rattle.meaning.specs.Layout.{document_text}
use Rattle.meaning.specs.Entries.{refusing, printed_of, printed_document}
use Rattle.table_laws.specs.Exactly.{verdict_is_right}
use Rattle.document_laws.specs.Room.{SameText, Exact, Prints, refuses, writes, prints_same_text, printing_is_exact}

module _ (w p : List ℕ) where
  -- a verdict's refusal is neither success nor 8
  not_success : (m i : ℕ) → Right w p (refusal m i) → m ≡ 0 → ⊥
  unfolding has_fault
  not_success m i (inl x) z = absurd (omega (arith, x.0))
  not_success m i (inr g) z = clash g.here (rw z)

  not_room : (m i : ℕ) → Right w p (refusal m i) → m ≡ 8 → ⊥
  unfolding has_fault
  not_room m i (inl x) z = absurd (omega (arith, x.0))
  not_room m i (inr g) z = clash g.here (rw z)

module _ (s : Settings) (w p : List ℕ) where
  -- the settings' refusal, the verdict's, or the document's text
  pub document_prints : Prints (printed_document s w p)
  unfolding printed_document
  document_prints = go (settings_fault document_levels s) (verdict w p) (verdict_is_right w p)
    where
      text : List ℕ
      text = document_text s (tree_of w p)

      go : (f : Bool) (v : Verdict) → Right w p v → Prints (λ out. if f then refusing 1 0 out else printed_of v text out)
      go true v r = refuses 1 0 (λ z. absurd (omega arith)) (λ z. absurd (omega arith)) (λ out. refl)
      go false accepted r = writes text (λ out. refl)
      go false (refusal m i) r = refuses m i (not_success w p m i r) (not_room w p m i r) (λ out. refl)

  -- "Success reports the length; bytes past it stay", and a longer output gets the same text
  pub more_room_same_text : (out out' : List ℕ) → (printed_document s w p out).0.number ≡ 0 → length out ≤ length out'
      → SameText (printed_document s w p out) (printed_document s w p out') out'
  more_room_same_text = prints_same_text document_prints

  -- "Answer 8 reports the exact needed length"
  pub needed_is_exact : (out : List ℕ) → (printed_document s w p out).0.number ≡ 8
      → Exact (printed_document s w p out).0.length (printed_document s w p)
  needed_is_exact = printing_is_exact document_prints
