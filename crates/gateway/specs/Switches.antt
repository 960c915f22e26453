-- The yes-or-no numbers of the C interface: one that is neither 0 nor 1 is refused, and any other is the switch that it says.
use Rattle.std.specs.Prelude.{◌≡◌, Bool, List, ℕ, ◌≤◌, ◌<◌, eqb, Result, Ok, Err}
use Rattle.std.proofs.Common.{refl, lt-ltb, le-ltb}
use Rattle.meaning.specs.Settings.{settings}
use Rattle.meaning.specs.Answers.{answer}
use Rattle.meaning.specs.Entries.{printed_literal, printed_literal_by_numbers, checked_document, checked_document_by_numbers, printed_document, printed_document_by_numbers}
use Rattle.meaning.specs.declared.Refusal.{Refusal}
use Rattle.meaning.specs.declared.Refusal.TheVariants.{Settings as SettingsRefused}
use Rattle.settings.specs.declared.Settings.{Settings}
use Rattle.settings.specs.Said.{said}
use Rattle.gateway.specs.Numbers.{ToldPlace}

abbrev pub SwitchIs : ℕ → Result Bool Refusal → Type 0
SwitchIs n (Ok is_on) = (n ≤ 1) × (is_on ≡ eqb n 1)
SwitchIs n (Err why) = (1 < n) × (why ≡ SettingsRefused)

-- the settings of these numbers
abbrev pub SettingsAre : ℕ → List ℕ → ℕ → Result Settings Refusal → Type 0
SettingsAre breaks prefix level (Ok s) = (breaks ≤ 1) × (said s ≡ settings (eqb breaks 1) prefix level)
SettingsAre breaks prefix level (Err why) = (1 < breaks) × (why ≡ SettingsRefused)

module _ (breaks : ℕ) (prefix : List ℕ) (level description : ℕ) (value out : List ℕ) where
  pub no_such_breaks : 1 < breaks → printed_literal_by_numbers breaks prefix level description value out ≡ (answer 1 0 0, out)
  unfolding printed_literal_by_numbers
  no_such_breaks h = rw (lt-ltb 1 breaks h)

  module _ (b : breaks ≤ 1) where
    pub no_such_kind : 1 < description → printed_literal_by_numbers breaks prefix level description value out ≡ (answer 1 0 0, out)
    unfolding printed_literal_by_numbers
    no_such_kind h = rw (le-ltb 1 breaks b, lt-ltb 1 description h)

    pub switches_tell : description ≤ 1
        → printed_literal_by_numbers breaks prefix level description value out ≡ printed_literal (settings (eqb breaks 1) prefix level) (eqb description 1) value out
    unfolding printed_literal_by_numbers
    switches_tell h = rw (le-ltb 1 breaks b, le-ltb 1 description h)

-- and of a document's check
module _ (breaks : ℕ) (prefix : List ℕ) (level : ℕ) (w p : List ℕ) where
  pub no_such_switch : 1 < breaks → ToldPlace (checked_document_by_numbers breaks prefix level w p) 1 0
  unfolding checked_document_by_numbers
  no_such_switch h = rw (lt-ltb 1 breaks h) (record { number = refl; place = refl })

  pub no_such_switch_checked : 1 < breaks → checked_document_by_numbers breaks prefix level w p ≡ answer 1 0 0
  unfolding checked_document_by_numbers
  no_such_switch_checked h = rw (lt-ltb 1 breaks h) refl

  pub switch_tells : breaks ≤ 1 → checked_document (settings (eqb breaks 1) prefix level) w p ≡ checked_document_by_numbers breaks prefix level w p
  unfolding checked_document_by_numbers
  switch_tells h = rw (le-ltb 1 breaks h)

-- and of its printing
module _ (breaks : ℕ) (prefix : List ℕ) (level : ℕ) (w p out : List ℕ) where
  pub no_such_breaks_for_documents : 1 < breaks → printed_document_by_numbers breaks prefix level w p out ≡ (answer 1 0 0, out)
  unfolding printed_document_by_numbers
  no_such_breaks_for_documents h = rw (lt-ltb 1 breaks h)

  pub breaks_tell : breaks ≤ 1 → printed_document_by_numbers breaks prefix level w p out ≡ printed_document (settings (eqb breaks 1) prefix level) w p out
  unfolding printed_document_by_numbers
  breaks_tell h = rw (le-ltb 1 breaks h)
