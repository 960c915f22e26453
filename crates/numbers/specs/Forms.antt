-- The forms of a literal by number, at the C interface.
use Rattle.std.specs.Prelude.{ℕ}
use Rattle.std.proofs.Math.Option.{Option, none, some}
use Rattle.meaning.specs.Reading.{Form, quoted_form, block_form}

-- 0 for none, 1 quoted, 2 block
abbrev pub form_number : Option Form → ℕ
form_number none = 0
form_number (some quoted_form) = 1
form_number (some block_form) = 2
