-- What printing a literal answers, by where it stops: each refusal in the order of the numbers, then the literal itself.
use Rattle.std.specs.Prelude.{◌≡◌, refl, Bool, true, false, not, List, ℕ, ◌≤◌, ◌<◌, leb, length, Ok, Err, if◌then◌else◌}
use Rattle.std.specs.Borrow.{MutBor}
use Rattle.std.proofs.Common.{sym, ◌∙◌, lt-ltb, le-ltb, leb-true, leb-false}
use Rattle.base.specs.Bools.{not_true, not_false}
use Rattle.meaning.specs.Utf8.{utf8}
use Rattle.meaning.specs.Settings.{Settings, literal_levels, settings_fault}
use Rattle.meaning.specs.Literal.{literal}
use Rattle.meaning.specs.Refusals.{value_size_fault}
use Rattle.meaning.specs.Answers.{answer, refusal_answer}
use Rattle.meaning.specs.Entries.{printed_literal}
use Rattle.meaning.specs.Demand.{Printable}
use Rattle.demand.specs.Three.{printed_is_written, written_fits, written_short}
use Rattle.pen.specs.declared.Pen.{Pen}
use Rattle.meaning.specs.declared.Refusal.{Refusal}
use Rattle.meaning.specs.declared.Refusal.TheVariants.{Room}
use Rattle.pen.specs.Wrote.{Over, Wrote, wrote_front}
use Rattle.literal.specs.Chosen.{fit_of}

module _ (s : Settings) (d : Bool) (v out : List ℕ) where
  pub refuses_settings : (f : Bool) → f ≡ settings_fault literal_levels s → f ≡ true → (answer 1 0 0, out) ≡ printed_literal s d v out
  unfolding printed_literal
  refuses_settings f e t = rw (sym e ∙ t)

  module _ (f : Bool) (e : f ≡ settings_fault literal_levels s) (z : f ≡ false) where
    pub refuses_size : 65536 < length v → (answer 2 0 0, out) ≡ printed_literal s d v out
    unfolding printed_literal
    refuses_size h = rw (sym e ∙ z, lt-ltb 65536 (length v) h)

    module _ (h : length v ≤ 65536) (u : Bool) (k : u ≡ utf8 v) where
      pub refuses_text : not u ≡ true → (answer 7 0 0, out) ≡ printed_literal s d v out
      unfolding printed_literal
      refuses_text t = rw (sym e ∙ z, le-ltb 65536 (length v) h, sym k ∙ not_true u t)

pub printable : (s : Settings) (v : List ℕ) (f : Bool) → f ≡ settings_fault literal_levels s → f ≡ false → length v ≤ 65536 → (u : Bool) → u ≡ utf8 v → not u ≡ false → Printable s v
unfolding value_size_fault
printable s v f e z h u k t = record { settings_fine = sym e ∙ z; size_fine = le-ltb 65536 (length v) h; is_utf8 = sym k ∙ not_false u t }

-- what `fit_of` tells
pub needs_more : (t : List ℕ) (room : ℕ) (r : Refusal) → Err r ≡ fit_of t room → (r ≡ Room record { 0 = length t }) × (room < length t)
unfolding fit_of
needs_more t room r e = go (leb (length t) room) refl e
  where
    go : (x : Bool) → leb (length t) room ≡ x → Err r ≡ (if x then Ok (tt {0}) else Err (Room record { 0 = length t }))
        → (r ≡ Room record { 0 = length t }) × (room < length t)
    go true f e = cc
    go false f e = (cc, leb-false (length t) room f)

pub has_room : (t : List ℕ) (room : ℕ) → Ok tt ≡ fit_of t room → length t ≤ room
unfolding fit_of
has_room t room e = go (leb (length t) room) refl e
  where
    go : (x : Bool) → leb (length t) room ≡ x → Ok (tt {0}) ≡ (if x then Ok (tt {0}) else Err (Room record { 0 = length t })) → length t ≤ room
    go true f e = leb-true (length t) room f
    go false f e = cc

-- the literal does not fit, or is written
module _ (s : Settings) (d : Bool) (v t : List ℕ) (p : Printable s v) (l : t ≡ literal s d v) where
  pub refuses_room : (out : List ℕ) (r : Refusal) → Err r ≡ fit_of t (length out) → (refusal_answer r, out) ≡ printed_literal s d v out
  refuses_room out r e =
      let k = needs_more t (length out) r e in
      rw (k.0, l) (sym (printed_is_written s d v p out ∙ written_short (literal s d v) out (rw l at k.1)))

  -- `final` is what the lent memory holds once the writer is done
  pub prints : {out : MutBor (List ℕ)} {q r : Pen} {final : List ℕ} → Ok tt ≡ fit_of t (length out.now) → Over out q → Wrote q t r
      → final ≡ r.out.now → (answer 0 0 r.at.0, final) ≡ printed_literal s d v out.now
  prints {out} {q} {r} e a w z =
      let k = has_room t (length out.now) e in
      let f = wrote_front a w k in
      rw (z, f.0, f.1, l) (sym (printed_is_written s d v p out.now ∙ written_fits (literal s d v) out.now (rw l at k)))
