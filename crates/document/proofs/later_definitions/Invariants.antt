-- Once those that are left are written, all are.
use Rattle.std.proofs.Common.{◌-◌}
use Rattle.meaning.specs.Table.{forest}
use Rattle.meaning.specs.Layout.{later_definitions}
use Rattle.pen.specs.Wrote.{Left}
use Rattle.settings.specs.Said.{said}
use Rattle.layout.specs.Read.{words, pool}
use Rattle.document.specs.Top.{Tops}
use Rattle.document.proofs.later_definitions.Given as goal

abbrev pub invariant-loop-definitions : goal.invariant-loop-definitions
invariant-loop-definitions l =
    Tops (words l.printer) (pool l.printer) l.definitions.next.0 l.definitions.end.0
    × Left l.initial.pen (later_definitions (said l.settings) (forest (words l.printer) (pool l.printer) l.initial.definitions.next.0 l.initial.definitions.end.0))
    l.pen (later_definitions (said l.settings) (forest (words l.printer) (pool l.printer) l.definitions.next.0 l.definitions.end.0))

abbrev pub decreases-loop-definitions : goal.decreases-loop-definitions
decreases-loop-definitions l = l.definitions.end.0 - l.definitions.next.0
