-- What reading answers once its text is stored, or measured and found too long: the definition's answer for that text.
use Rattle.std.proofs.Common.{◌≡◌, ◌∙◌, ap, le-leb, arith, ℕ, List, ◌++◌, ◌≤◌, ◌<◌, length, drop, Result, Ok, Err}
use Rattle.std.proofs.Math.Option.{Option}
use Rattle.std.proofs.lemmas.Bool.{lt-leb}
use Rattle.meaning.specs.declared.Form.{Form}
use Rattle.meaning.specs.declared.Form.TheVariants.{Block}
use Rattle.meaning.specs.declared.Offset.{Offset}
use Rattle.meaning.specs.declared.Refusal.{Refusal}
use Rattle.meaning.specs.declared.Refusal.TheVariants.{Room}
use Rattle.meaning.specs.Reading.{Form as FormRead, block_form, value}
use Rattle.meaning.specs.Answers.{Answer, answer, reading_answer}
use Rattle.meaning.specs.Entries.{written, read_of}

-- an answer, the form that it names, and the output after
abbrev pub Outcome : Type 0
Outcome = Answer × Option FormRead × List ℕ

-- the text is v, and d the output before
abbrev pub Answered : List ℕ → List ℕ → Result (Form × Offset) Refusal → List ℕ → Type 0
Answered v d r d' = ((reading_answer r).0, (reading_answer r).1, d') ≡ read_of (value block_form v) d

fits : (v d : List ℕ) → length v ≤ length d → written v d ≡ (answer 0 0 (length v), v ++ drop (length v) d)
unfolding written
fits v d h = rw (le-leb (length v) (length d) h)

too_long : (v d : List ℕ) → length d < length v → written v d ≡ (answer 8 0 (length v), d)
unfolding written
too_long v d h = rw (lt-leb (length v) (length d) h)

pub value_is_stored : (v d m : List ℕ) (n : ℕ) → n ≡ length v → length v ≤ length d → m ≡ v ++ drop (length v) d
    → Answered v d (Ok (Block, record { 0 = n })) m
value_is_stored v d m n e k f = rw (e, f, fits v d k)

pub room_is_short : (v d : List ℕ) (n : ℕ) → n ≡ length v → length d < n → Answered v d (Err (Room (record { 0 = n }))) d
room_is_short v d n e h = let k : length d < length v = omega (arith, e) in rw (e, too_long v d k)

pub answered_as : (v w d : List ℕ) {x : Outcome} → x ≡ read_of (value block_form v) d → v ≡ w → x ≡ read_of (value block_form w) d
answered_as v w d a e = a ∙ ap (λ (x : List ℕ). read_of (value block_form x) d) e
