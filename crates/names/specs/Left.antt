-- What is left of a text behind a part, as the parts of a number answer it: the text, or nothing.
use Rattle.std.specs.Borrow.{Bor}
use Rattle.std.specs.Prelude.{List, ℕ, Option, Some, None}
use Rattle.std.proofs.Math.Option.{Option as Maybe, none, some}

abbrev pub left : Option (Bor (List ℕ)) → Maybe (List ℕ)
left None = none
left (Some s) = some s.now
