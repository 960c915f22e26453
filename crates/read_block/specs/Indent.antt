-- What the walk over the lines has seen of their indents.
use Rattle.std.proofs.Math.Option.{Option as Maybe, none, some}
use Rattle.std.specs.Prelude.{ℕ, Option, Some, None}

abbrev pub indent_seen : Option ℕ → Maybe ℕ
indent_seen None = none
indent_seen (Some n) = some n
