-- What every public entry answers, and what it leaves in the lent output: one function of its inputs and the output before.
use Rattle.std.specs.Prelude.{ℕ, Bool, not, ◌||◌, List, ◌++◌, eqb, leb, length, drop, if◌then◌else◌}
use Rattle.std.proofs.Math.Option.{Option, none, some}
use Rattle.meaning.specs.Utf8.{utf8}
use Rattle.meaning.specs.Settings.{Settings, settings, document_levels, literal_levels, settings_fault, switch_fault}
use Rattle.meaning.specs.Literal.{literal}
use Rattle.meaning.specs.Reading.{Form, Reading, refused, value, reading}
use Rattle.meaning.specs.Table.{tree_of}
use Rattle.meaning.specs.Refusals.{value_size_fault, Verdict, accepted, refusal, verdict}
use Rattle.meaning.specs.Layout.{document_text}
use Rattle.meaning.specs.Answers.{Answer, answer}

-- the answer, and every byte of the output
abbrev pub Outcome : Type 0
Outcome = Answer × List ℕ

-- "No refusal changes an output byte."
abbrev pub refusing : ℕ → ℕ → List ℕ → Outcome
refusing number place out = (answer number place 0, out)

-- "8 room: output shorter than the text, or value, to be written"; "Success reports the length; bytes past it stay."
unfoldable pub written : List ℕ → List ℕ → Outcome
written text out =
    if leb (length text) (length out) then (answer 0 0 (length text), text ++ drop (length text) out) else (answer 8 0 (length text), out)

-- "A literal's printing uses 1, 2, 7, 8"
unfoldable pub printed_literal : Settings → Bool → List ℕ → List ℕ → Outcome
unfolding settings_fault value_size_fault utf8 literal written
printed_literal s description v out =
    if settings_fault literal_levels s then refusing 1 0 out
    else if value_size_fault v then refusing 2 0 out
    else if not (utf8 v) then refusing 7 0 out
    else written (literal s description v) out

-- the same at the C interface, where breaks and description are numbers
unfoldable pub printed_literal_by_numbers : ℕ → List ℕ → ℕ → ℕ → List ℕ → List ℕ → Outcome
unfolding switch_fault printed_literal
printed_literal_by_numbers breaks prefix level description v out =
    if switch_fault breaks || switch_fault description then refusing 1 0 out
    else printed_literal (settings (eqb breaks 1) prefix level) (eqb description 1) v out

-- "its reading 9, 8"; with the form, where there is a value
abbrev pub form_and : Option Form → Outcome → Answer × Option Form × List ℕ
form_and f o = (o.0, f, o.1)

abbrev pub form_if_written : Form → Outcome → Option Form
form_if_written f o = if eqb o.0.number 0 then some f else none

abbrev pub read_of : Reading → List ℕ → Answer × Option Form × List ℕ
read_of refused out = form_and none (refusing 9 0 out)
read_of (value f v) out = form_and (form_if_written f (written v out)) (written v out)

unfoldable pub read_literal : List ℕ → List ℕ → Answer × Option Form × List ℕ
unfolding reading written
read_literal text out = read_of (reading text) out

-- a table's check
abbrev pub verdict_answer : Verdict → Answer
verdict_answer accepted = answer 0 0 0
verdict_answer (refusal number place) = answer number place 0

unfoldable pub checked_table : List ℕ → List ℕ → Answer
unfolding verdict
checked_table w p = verdict_answer (verdict w p)

-- the same where the caller has the settings too: 1 goes before the table's refusals
unfoldable pub checked_document : Settings → List ℕ → List ℕ → Answer
unfolding settings_fault checked_table
checked_document s w p = if settings_fault document_levels s then answer 1 0 0 else checked_table w p

unfoldable pub checked_document_by_numbers : ℕ → List ℕ → ℕ → List ℕ → List ℕ → Answer
unfolding switch_fault checked_document
checked_document_by_numbers breaks prefix level w p =
    if switch_fault breaks then answer 1 0 0 else checked_document (settings (eqb breaks 1) prefix level) w p

-- a document's printing: 1, then the table's refusals, then 8
abbrev pub printed_of : Verdict → List ℕ → List ℕ → Outcome
printed_of accepted text out = written text out
printed_of (refusal number place) text out = refusing number place out

unfoldable pub printed_document : Settings → List ℕ → List ℕ → List ℕ → Outcome
unfolding settings_fault verdict document_text tree_of written
printed_document s w p out =
    if settings_fault document_levels s then refusing 1 0 out else printed_of (verdict w p) (document_text s (tree_of w p)) out

-- the same at the C interface, where breaks is a number
unfoldable pub printed_document_by_numbers : ℕ → List ℕ → ℕ → List ℕ → List ℕ → List ℕ → Outcome
unfolding switch_fault printed_document
printed_document_by_numbers breaks prefix level w p out =
    if switch_fault breaks then refusing 1 0 out else printed_document (settings (eqb breaks 1) prefix level) w p out
