-- The last byte, if there is one; of the empty value it is 0.
use Rattle.std.proofs.Common.{refl}
use Rattle.block.specs.Text.{last_byte_found}
use Rattle.block.proofs.runs_into_quotes.Goals as goal

pub returns-in-Some : goal.returns-in-Some
returns-in-Some c = rw (last_byte_found _ _ c.in-Some.ensures.value) refl

pub returns-in-None : goal.returns-in-None
returns-in-None c = rw (last_byte_found _ _ c.in-None.ensures.value) refl
