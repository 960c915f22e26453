-- Document 01, "Refusal numbers": the number, place and length of each answer.
use Rattle.std.specs.Prelude.{ℕ, Result, Ok, Err}
use Rattle.std.proofs.Math.Option.{Option, none, some}
use Rattle.meaning.specs.Reading.{Form as FormRead, quoted_form, block_form}
use Rattle.meaning.specs.declared.Refusal.{Refusal}
use Rattle.meaning.specs.declared.Refusal.TheVariants.{Settings, Size, Node, Nesting, Depth, Children, Text, Room, Literal}
use Rattle.meaning.specs.declared.Form.{Form}
use Rattle.meaning.specs.declared.Form.TheVariants.{Quoted, Block}
use Rattle.meaning.specs.declared.Offset.{Offset}

-- number 0 is success; "Answer 8 reports the exact needed length, as u64; other refusals report 0. .. Success reports the length"
pub record Answer : Type 0 where
  pub number : ℕ
  pub place : ℕ
  pub length : ℕ

abbrev pub answer : ℕ → ℕ → ℕ → Answer
answer n p l = record { number = n; place = p; length = l }

abbrev pub refusal_answer : Refusal → Answer
refusal_answer Settings = answer 1 0 0
refusal_answer Size = answer 2 0 0
refusal_answer (Node i) = answer 3 i.0 0
refusal_answer (Nesting i) = answer 4 i.0 0
refusal_answer (Depth i) = answer 5 i.0 0
refusal_answer (Children i) = answer 6 i.0 0
refusal_answer (Text i) = answer 7 i.0 0
refusal_answer (Room n) = answer 8 0 n.0
refusal_answer Literal = answer 9 0 0

abbrev pub checked_answer : Result Unit Refusal → Answer
checked_answer (Ok _) = answer 0 0 0
checked_answer (Err r) = refusal_answer r

abbrev pub printed_answer : Result Offset Refusal → Answer
printed_answer (Ok n) = answer 0 0 n.0
printed_answer (Err r) = refusal_answer r

abbrev pub form_read : Form → FormRead
form_read Quoted = quoted_form
form_read Block = block_form

-- "The answer names the form."
abbrev pub reading_answer : Result (Form × Offset) Refusal → Answer × Option FormRead
reading_answer (Ok (f, n)) = (answer 0 0 n.0, some (form_read f))
reading_answer (Err r) = (refusal_answer r, none)
