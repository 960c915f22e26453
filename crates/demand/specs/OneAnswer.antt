-- Document 01, "What every public entry owes": "any two answers allowed by the statement are shown equal". A promise fixes the number,
-- place and length of an answer; these tell the answer itself, because each can be read back from them.
use Rattle.std.specs.Prelude.{◌≡◌, refl, false, eqb, Result, Ok, Err, if◌then◌else◌}
use Rattle.std.proofs.Common.{sym, ap, ◌∙◌}
use Rattle.std.proofs.Math.Option.{Option, none, some}
use Rattle.meaning.specs.Reading.{Form as FormRead, quoted_form, block_form}
use Rattle.meaning.specs.Answers.{Answer, refusal_answer, checked_answer, printed_answer, reading_answer}
use Rattle.meaning.specs.declared.Refusal.{Refusal}
use Rattle.meaning.specs.declared.Refusal.TheVariants.{Settings, Size, Node, Nesting, Depth, Children, Text, Room, Literal}
use Rattle.meaning.specs.declared.Form.{Form}
use Rattle.meaning.specs.declared.Form.TheVariants.{Quoted, Block}
use Rattle.meaning.specs.declared.NodeNumber.{NodeNumber}
use Rattle.meaning.specs.declared.Offset.{Offset}

abbrev node : Answer → NodeNumber
node a = record { 0 = a.place }

abbrev bytes : Answer → Offset
bytes a = record { 0 = a.length }

-- the refusal of a number from 1 on
abbrev refusal_of : Answer → Refusal
refusal_of a =
    if eqb a.number 1 then Settings
    else if eqb a.number 2 then Size
    else if eqb a.number 3 then Node (node a)
    else if eqb a.number 4 then Nesting (node a)
    else if eqb a.number 5 then Depth (node a)
    else if eqb a.number 6 then Children (node a)
    else if eqb a.number 7 then Text (node a)
    else if eqb a.number 8 then Room (bytes a)
    else Literal

refusal_read_back : (r : Refusal) → refusal_of (refusal_answer r) ≡ r
refusal_read_back Settings = refl
refusal_read_back Size = refl
refusal_read_back (Node i) = refl
refusal_read_back (Nesting i) = refl
refusal_read_back (Depth i) = refl
refusal_read_back (Children i) = refl
refusal_read_back (Text i) = refl
refusal_read_back (Room n) = refl
refusal_read_back Literal = refl

-- a refusal's number is not 0
pub refused_is_not_0 : (r : Refusal) → eqb (refusal_answer r).number 0 ≡ false
refused_is_not_0 Settings = refl
refused_is_not_0 Size = refl
refused_is_not_0 (Node i) = refl
refused_is_not_0 (Nesting i) = refl
refused_is_not_0 (Depth i) = refl
refused_is_not_0 (Children i) = refl
refused_is_not_0 (Text i) = refl
refused_is_not_0 (Room n) = refl
refused_is_not_0 Literal = refl

abbrev checked_of : Answer → Result Unit Refusal
checked_of a = if eqb a.number 0 then Ok tt else Err (refusal_of a)

checked_read_back : (c : Result Unit Refusal) → checked_of (checked_answer c) ≡ c
checked_read_back (Ok u) = refl
checked_read_back (Err r) = rw (refused_is_not_0 r, refusal_read_back r)

abbrev printed_of : Answer → Result Offset Refusal
printed_of a = if eqb a.number 0 then Ok (bytes a) else Err (refusal_of a)

printed_read_back : (p : Result Offset Refusal) → printed_of (printed_answer p) ≡ p
printed_read_back (Ok n) = refl
printed_read_back (Err r) = rw (refused_is_not_0 r, refusal_read_back r)

abbrev read_of : Answer → Option FormRead → Result (Form × Offset) Refusal
read_of a none = Err (refusal_of a)
read_of a (some quoted_form) = Ok (Quoted, bytes a)
read_of a (some block_form) = Ok (Block, bytes a)

reading_read_back : (r : Result (Form × Offset) Refusal) → read_of (reading_answer r).0 (reading_answer r).1 ≡ r
reading_read_back (Ok (Quoted, n)) = refl
reading_read_back (Ok (Block, n)) = refl
reading_read_back (Err r) = rw (refusal_read_back r)

pub one_checked : (c d : Result Unit Refusal) → checked_answer c ≡ checked_answer d → c ≡ d
one_checked c d e = sym (checked_read_back c) ∙ ap checked_of e ∙ checked_read_back d

pub one_printed : (p q : Result Offset Refusal) → printed_answer p ≡ printed_answer q → p ≡ q
one_printed p q e = sym (printed_read_back p) ∙ ap printed_of e ∙ printed_read_back q

pub one_reading : (r s : Result (Form × Offset) Refusal) → reading_answer r ≡ reading_answer s → r ≡ s
one_reading r s e = sym (reading_read_back r) ∙ ap (λ (a : Answer × Option FormRead). read_of a.0 a.1) e ∙ reading_read_back s
