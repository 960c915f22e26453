-- One array holds the escape, whole, and is written at once: its bytes are what `escaped` says for the byte's class.
use Rattle.std.proofs.Common.{rules}
use Rattle.pen.specs.Wrote.{wrote_as}
use Rattle.quoted.specs.Escapes.{escaped_by_letter, escaped_by_digits}
use Rattle.quoted.proofs.Classes.write_escape.Goals as goal

pub returns-in-117 : goal.returns-in-117
returns-in-117 c = wrote_as c.write.ensures (escaped_by_digits _ _ _ _ c.class_of.ensures c.in-117.is c.hex_digit.ensures c.hex_digit-in-117.ensures)

pub returns-in_default : goal.returns-in_default
returns-in_default c = wrote_as c.write-in_default.ensures (escaped_by_letter _ _ c.class_of.ensures c.requires (λ e. search rules))
