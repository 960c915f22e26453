-- Document 01, "What every public entry owes": "any two answers allowed by the statement are shown equal". The entries.
use Rattle.std.specs.Prelude.{ℕ, ◌≡◌, List, Result}
use Rattle.std.proofs.Common.{sym, ap, ◌∙◌}
use Rattle.std.proofs.Math.Option.{Option}
use Rattle.meaning.specs.Reading.{Form}
use Rattle.meaning.specs.Answers.{Answer, checked_answer, printed_answer, reading_answer}
use Rattle.meaning.specs.Entries.{Outcome}
use Rattle.meaning.specs.declared.Form.{Form as FormAnswered}
use Rattle.meaning.specs.declared.Offset.{Offset}
use Rattle.meaning.specs.declared.Refusal.{Refusal}
use Rattle.demand.specs.OneAnswer.{one_checked, one_printed, one_reading}
use Rattle.gateway.specs.Numbers.{Told, ToldForm, ToldPlace, ToldWhole}

-- a result, or lent memory after a call, that a statement says to be x
pub one_value : {A : Type 0} {a b x : A} → a ≡ x → b ≡ x → a ≡ b
one_value e f = e ∙ sym f

-- `check_table`, `check_document`
pub one_check : {a : Answer} (c d : Result Unit Refusal) → checked_answer c ≡ a → checked_answer d ≡ a → c ≡ d
one_check c d e f = one_checked c d (one_value e f)

-- `print_literal`, `print_document`: the answer, and the output after it
pub one_print : {o : Outcome} (p q : Result Offset Refusal) {d d' : List ℕ} → (printed_answer p, d) ≡ o → (printed_answer q, d') ≡ o → (p ≡ q) × (d ≡ d')
one_print p q e f =
    let g = one_value e f in
    (one_printed p q (ap (λ (x : Outcome). x.0) g), ap (λ (x : Outcome). x.1) g)

-- `read_literal`, `read_quoted`, `read_block`
pub one_read : {o : Answer × Option Form × List ℕ} (r s : Result (FormAnswered × Offset) Refusal) {d d' : List ℕ} → ((reading_answer r).0, (reading_answer r).1, d) ≡ o
    → ((reading_answer s).0, (reading_answer s).1, d') ≡ o → (r ≡ s) × (d ≡ d')
one_read r s e f =
    let g = one_value e f in
    (one_reading r s (ap (λ (x : Answer × Option Form × List ℕ). (x.0, x.1)) g), ap (λ (x : Answer × Option Form × List ℕ). x.2) g)

-- the five C functions
pub one_told : {o : Outcome} {n n' l l' : ℕ} {d d' : List ℕ} → Told o n l d → Told o n' l' d' → (n ≡ n') × (l ≡ l') × (d ≡ d')
one_told x y = (one_value x.number y.number, one_value x.length y.length, one_value x.output y.output)

pub one_told_form : {o : Answer × Option Form × List ℕ} {n n' l l' f f' : ℕ} {d d' : List ℕ} → ToldForm o n l f d → ToldForm o n' l' f' d'
    → (n ≡ n') × (l ≡ l') × (f ≡ f') × (d ≡ d')
one_told_form x y =
    (one_value x.number y.number, one_value x.length y.length, one_value x.form y.form, one_value x.output y.output)

pub one_told_place : {a : Answer} {n n' i i' : ℕ} → ToldPlace a n i → ToldPlace a n' i' → (n ≡ n') × (i ≡ i')
one_told_place x y = (one_value x.number y.number, one_value x.place y.place)

pub one_told_whole : {o : Outcome} {n n' i i' l l' : ℕ} {d d' : List ℕ} → ToldWhole o n i l d → ToldWhole o n' i' l' d'
    → (n ≡ n') × (i ≡ i') × (l ≡ l') × (d ≡ d')
one_told_whole x y =
    (one_value x.number y.number, one_value x.place y.place, one_value x.length y.length, one_value x.output y.output)
