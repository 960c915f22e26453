-- What a printer reads.
use Rattle.std.specs.Prelude.{List, ℕ}
use Rattle.meaning.specs.Layout.{Child}
use Rattle.layout.specs.declared.printer.Printer.{Printer}
use Rattle.layout.specs.declared.Children.{Children}
use Rattle.layout.specs.Kids.{kids}

abbrev pub words : Printer → List ℕ
words x = x.table.words.now

abbrev pub pool : Printer → List ℕ
pool x = x.table.pool.now

-- the children that a walk has still to go over
abbrev pub ahead : Printer → Children → List Child
ahead x at = kids (words x) (pool x) at.next.0 at.end.0
