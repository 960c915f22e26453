-- Any two answers that the statement of `print_archive` allows are equal, and so is the memory that they leave.
use Rattle.std.specs.Prelude.{◌≡◌, refl, Result, Ok, Err, List, ℕ, eqb, if◌then◌else◌}
use Rattle.std.proofs.Common.{sym, ap, ◌∙◌}
use Rattle.meaning.specs.Answers.{Answer}
use Rattle.meaning.specs.Entries.{Outcome}
use Rattle.meaning.specs.declared.Refusal.TheVariants.{Settings, Size, Node, Nesting, Depth, Children, Text, Room, Literal}
use Rattle.archive.specs.declared.Refused.{Refused}
use Rattle.archive.specs.declared.Refused.TheVariants.{NotATable, WrongLength, Document}
use Rattle.archive.specs.Archive.{archived_answer, archived}

-- the answer's three numbers tell it
back : Answer → Result ℕ Refused
back a =
    if eqb a.number 0 then Ok a.length
    else if eqb a.number 20 then Err NotATable
    else if eqb a.number 21 then Err WrongLength
    else Err (Document (
    if eqb a.number 1 then Settings
    else if eqb a.number 2 then Size
    else if eqb a.number 3 then Node (record { 0 = a.place })
    else if eqb a.number 4 then Nesting (record { 0 = a.place })
    else if eqb a.number 5 then Depth (record { 0 = a.place })
    else if eqb a.number 6 then Children (record { 0 = a.place })
    else if eqb a.number 7 then Text (record { 0 = a.place })
    else if eqb a.number 8 then Room (record { 0 = a.length })
    else Literal
    ))

told : (r : Result ℕ Refused) → back (archived_answer r) ≡ r
unfolding back
told (Ok length) = refl
told (Err NotATable) = refl
told (Err WrongLength) = refl
told (Err (Document Settings)) = refl
told (Err (Document Size)) = refl
told (Err (Document (Node i))) = refl
told (Err (Document (Nesting i))) = refl
told (Err (Document (Depth i))) = refl
told (Err (Document (Children i))) = refl
told (Err (Document (Text i))) = refl
told (Err (Document (Room n))) = refl
told (Err (Document Literal)) = refl

pub one_archived : (file words out : List ℕ) {a b : Result ℕ Refused} {o p w v : List ℕ}
    → ((archived_answer a, o), w) ≡ archived file words out → ((archived_answer b, p), v) ≡ archived file words out
    → (a ≡ b) × (o ≡ p) × (w ≡ v)
one_archived file words out {a = a} {b = b} e f =
    let q = e ∙ sym f in (
      sym (told a) ∙ ap (λ (x : Outcome × List ℕ). back x.0.0) q ∙ told b,
      ap (λ (x : Outcome × List ℕ). x.0.1) q,
      ap (λ (x : Outcome × List ℕ). x.1) q,
    )
