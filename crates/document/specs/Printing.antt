-- What printing a document answers, by where it stops: what the check refuses, an output that is too short, or the text itself.
use Rattle.std.specs.Prelude.{◌≡◌, Bool, true, false, List, [], ℕ, ◌≤◌, ◌<◌, eqb, length, if◌then◌else◌}
use Rattle.std.specs.Borrow.{MutBor}
use Rattle.std.proofs.Common.{refl, sym, ap, ◌∙◌, inl, inr, arith}
use Rattle.base.specs.Bools.{clash}
use Rattle.meaning.specs.Settings.{Settings, document_levels, settings_fault}
use Rattle.meaning.specs.Table.{tree_of}
use Rattle.meaning.specs.Refusals.{Verdict, accepted, refusal, verdict, has_fault, Accepted, Right}
use Rattle.meaning.specs.Layout.{document_text}
use Rattle.meaning.specs.declared.Refusal.{Refusal}
use Rattle.meaning.specs.Answers.{Answer, answer, refusal_answer}
use Rattle.meaning.specs.Entries.{verdict_answer, written, checked_table, checked_document, printed_of, printed_document}
use Rattle.table_laws.specs.Exactly.{verdict_is_right}
use Rattle.demand.specs.Three.{written_fits, written_short}
use Rattle.demand.specs.OneAnswer.{refused_is_not_0}
use Rattle.pen.specs.declared.Pen.{Pen}
use Rattle.pen.specs.Wrote.{Over, Wrote, wrote_front, wrote_nowhere}
use Rattle.settings.specs.Faults.{small_settings}
use Rattle.text_bound.specs.Document.{document_fits}

module _ (s : Settings) (w p : List ℕ) where
  -- the check's refusal is the printer's
  pub refuses_as_checked : (r : Refusal) (out : List ℕ) → refusal_answer r ≡ checked_document s w p → (refusal_answer r, out) ≡ printed_document s w p out
  unfolding checked_document checked_table printed_document
  refuses_as_checked r out e = go (settings_fault document_levels s) (verdict w p) e
    where
      text : List ℕ
      text = document_text s (tree_of w p)

      of_verdict : (v : Verdict) → refusal_answer r ≡ verdict_answer v → (refusal_answer r, out) ≡ printed_of v text out
      of_verdict accepted e = clash (ap (λ (a : Answer). eqb a.number 0) e) (refused_is_not_0 r)
      of_verdict (refusal m i) e = ap (λ (a : Answer). (a, out)) e

      go : (f : Bool) (v : Verdict) → refusal_answer r ≡ (if f then answer 1 0 0 else verdict_answer v)
          → (refusal_answer r, out) ≡ (if f then (answer 1 0 0, out) else printed_of v text out)
      go true v e = ap (λ (a : Answer). (a, out)) e
      go false v e = of_verdict v e

  -- a verdict's refusal has a number
  numbered : (v : Verdict) → Right w p v → answer 0 0 0 ≡ verdict_answer v → v ≡ accepted
  unfolding has_fault
  numbered accepted h e = refl
  numbered (refusal m i) (inl x) e = absurd (omega (arith, x.0, ap (λ (a : Answer). a.number) e))
  numbered (refusal m i) (inr g) e =
      let z : 0 ≡ m = ap (λ (a : Answer). a.number) e in
      clash g.here (rw (← z))

  module _ (e : answer 0 0 0 ≡ checked_document s w p) where
    pub settings_fine_lem : settings_fault document_levels s ≡ false
    unfolding checked_document
    settings_fine_lem = go (settings_fault document_levels s) e
      where
        go : (f : Bool) → answer 0 0 0 ≡ (if f then answer 1 0 0 else checked_table w p) → f ≡ false
        go true e = absurd (omega (arith, ap (λ (a : Answer). a.number) e))
        go false e = refl

    is_accepted : verdict w p ≡ accepted
    unfolding checked_document checked_table
    is_accepted = numbered (verdict w p) (verdict_is_right w p) (rw settings_fine_lem at e)

    pub all_fine : Accepted w p
    all_fine = rw is_accepted at (verdict_is_right w p)

    pub printed_is_written : (out : List ℕ) → printed_document s w p out ≡ written (document_text s (tree_of w p)) out
    unfolding printed_document
    printed_is_written out = rw (settings_fine_lem, is_accepted)

    pub small_level : s.level ≤ 64
    small_level = (small_settings document_levels s.breaks s.prefix s.level settings_fine_lem).1

    -- measured, it does not fit, or is written
    module _ {m : MutBor (List ℕ)} {q r : Pen} (a : Over m q) (n : m.now ≡ []) (x : Wrote q (document_text s (tree_of w p)) r) where
      measured : r.at.0 ≡ length (document_text s (tree_of w p))
      measured = (wrote_nowhere a n x (omega (arith, document_fits s settings_fine_lem all_fine))).0

      pub refuses_room : (out : List ℕ) → length out < r.at.0 → (answer 8 0 r.at.0, out) ≡ printed_document s w p out
      refuses_room out h = rw measured (sym (printed_is_written out ∙ written_short (document_text s (tree_of w p)) out (omega (arith, measured, h))))

      pub prints : {out : MutBor (List ℕ)} {q' r' : Pen} → r.at.0 ≤ length out.now → Over out q'
          → Wrote q' (document_text s (tree_of w p)) r' → {d : List ℕ} → d ≡ r'.out.now → (answer 0 0 r'.at.0, d) ≡ printed_document s w p out.now
      prints {out} h o y e =
          let k : length (document_text s (tree_of w p)) ≤ length out.now = omega (arith, measured, h) in
          let f = wrote_front o y k in
          rw (e, f.0, f.1) (sym (printed_is_written out.now ∙ written_fits (document_text s (tree_of w p)) out.now k))
