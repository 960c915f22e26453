-- What the C interface tells of an answer: its number, its length and, of a reading, its form.
use Rattle.std.specs.Prelude.{◌≡◌, refl, List, ℕ, Result, Ok, Err}
use Rattle.std.proofs.Common.{sym, ap, subst, ◌∙◌}
use Rattle.std.proofs.Math.Option.{Option, some}
use Rattle.meaning.specs.Reading.{Form}
use Rattle.meaning.specs.declared.Form.{Form as FormAnswered}
use Rattle.meaning.specs.declared.Offset.{Offset}
use Rattle.meaning.specs.declared.Refusal.{Refusal}
use Rattle.meaning.specs.Answers.{Answer, reading_answer, form_read}
use Rattle.meaning.specs.Entries.{Outcome}
use Rattle.numbers.specs.Forms.{form_number}

-- the result, the length and the output after the call are those of the outcome
pub record Told (o : Outcome) (n l : ℕ) (d : List ℕ) : Type 0 where
  pub number : n ≡ o.0.number
  pub length : l ≡ o.0.length
  pub output : d ≡ o.1

pub record ToldForm (o : Answer × Option Form × List ℕ) (n l f : ℕ) (d : List ℕ) : Type 0 where
  pub number : n ≡ o.0.number
  pub length : l ≡ o.0.length
  pub form : f ≡ form_number o.1
  pub output : d ≡ o.2

pub told_by : {o : Outcome} {a : Answer} {d : List ℕ} {n l : ℕ} → o ≡ (a, d) → n ≡ a.number → l ≡ a.length → Told o n l d
told_by {o} {a} {d} {n} {l} e f g =
    subst (λ (x : Outcome). Told x n l d) (sym e) (record { number = f; length = g; output = refl })

pub told_form_by : {o : Answer × Option Form × List ℕ} {a : Answer} {m : Option Form} {d : List ℕ} {n l f : ℕ} → (a, m, d) ≡ o → n ≡ a.number → l ≡ a.length → f ≡ form_number m → ToldForm o n l f d
told_form_by {o} {a} {m} {d} {n} {l} {f} e p q r =
    subst (λ (x : Answer × Option Form × List ℕ). ToldForm x n l f d) e (record { number = p; length = q; form = r; output = refl })

-- an answer of the reader, a refusal or a value
module _ {o : Answer × Option Form × List ℕ} {r : Result (FormAnswered × Offset) Refusal} {d : List ℕ} (e : ((reading_answer r).0, (reading_answer r).1, d) ≡ o) where
  pub told_refusal : {w : Refusal} {n l : ℕ} → r ≡ Err w → n ≡ (reading_answer r).0.number → l ≡ (reading_answer r).0.length → ToldForm o n l 0 d
  told_refusal {w} {n} {l} p f g = told_form_by e f g (sym (ap (λ (x : Result (FormAnswered × Offset) Refusal). form_number (reading_answer x).1) p))

  pub told_value : {f : FormAnswered} {m : Offset} {k : ℕ} → r ≡ Ok (f, m) → k ≡ form_number (some (form_read f)) → ToldForm o 0 m.0 k d
  told_value {f} {m} {k} p g =
      told_form_by e
      (sym (ap (λ (x : Result (FormAnswered × Offset) Refusal). (reading_answer x).0.number) p))
      (sym (ap (λ (x : Result (FormAnswered × Offset) Refusal). (reading_answer x).0.length) p))
      (g ∙ sym (ap (λ (x : Result (FormAnswered × Offset) Refusal). form_number (reading_answer x).1) p))

-- a table's answer: its number and its place
pub record ToldPlace (a : Answer) (n i : ℕ) : Type 0 where
  pub number : n ≡ a.number
  pub place : i ≡ a.place

pub told_place : {a b : Answer} {n i : ℕ} → b ≡ a → ToldPlace b n i → ToldPlace a n i
told_place {a} {b} {n} {i} e x = subst (λ (y : Answer). ToldPlace y n i) e x

-- a document's outcome: number, place, length and output
pub record ToldWhole (o : Outcome) (n i l : ℕ) (d : List ℕ) : Type 0 where
  pub number : n ≡ o.0.number
  pub place : i ≡ o.0.place
  pub length : l ≡ o.0.length
  pub output : d ≡ o.1

pub told_whole : {o : Outcome} {a : Answer} {d : List ℕ} {n i l : ℕ} → o ≡ (a, d) → n ≡ a.number → i ≡ a.place → l ≡ a.length → ToldWhole o n i l d
told_whole {o} {a} {d} {n} {i} {l} e f g h =
    subst (λ (x : Outcome). ToldWhole x n i l d) (sym e) (record { number = f; place = g; length = h; output = refl })
