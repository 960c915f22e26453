-- The nodes that are left fall from a node to its children and along a walk; between, the functions are ranked by who calls whom.
use Rattle.std.proofs.Common.{◌+◌, ◌-◌, ◌*◌, length}
use Rattle.meaning.specs.Table.{end_at}
use Rattle.settings.specs.Said.{said}
use Rattle.layout.specs.Classes.{meant}
use Rattle.layout.specs.Written.{gap_text}
use Rattle.layout.specs.Read.{words, pool, ahead}
use Rattle.serialize.specs.Walks.{Run}
use Rattle.serialize.proofs.+tree.Given as goal

abbrev pub decreases-serialize_impl : goal.decreases-serialize_impl
decreases-serialize_impl l = 8 * (end_at (words l.printer.now) l.node.0 - l.node.0)

abbrev pub decreases-argument : goal.decreases-argument
decreases-argument l = 8 * (l.children.now.end.0 - l.children.now.next.0) + 6

abbrev pub decreases-arguments : goal.decreases-arguments
decreases-arguments l = 8 * (l.children.now.end.0 - l.children.now.next.0) + 4

abbrev pub decreases-arguments_def : goal.decreases-arguments_def
decreases-arguments_def l = 8 * (l.children.now.end.0 - l.children.now.next.0) + 5

abbrev pub decreases-commas : goal.decreases-commas
decreases-commas l = 8 * (l.children.now.end.0 - l.children.now.next.0) + 3

abbrev pub decreases-curly : goal.decreases-curly
decreases-curly l = 8 * (l.children.now.end.0 - l.children.now.next.0) + 3

abbrev pub decreases-default : goal.decreases-default
decreases-default l = 8 * (l.children.now.end.0 - l.children.now.next.0) + 2

abbrev pub decreases-directive : goal.decreases-directive
decreases-directive l = 8 * (l.children.now.end.0 - l.children.now.next.0) + 6

abbrev pub decreases-directives : goal.decreases-directives
decreases-directives l = 8 * (l.children.now.end.0 - l.children.now.next.0) + 3

abbrev pub decreases-each : goal.decreases-each
decreases-each l = 8 * (l.children.now.end.0 - l.children.now.next.0) + 2

abbrev pub decreases-enum_value : goal.decreases-enum_value
decreases-enum_value l = 8 * (l.children.now.end.0 - l.children.now.next.0) + 6

abbrev pub decreases-field : goal.decreases-field
decreases-field l = 8 * (l.children.now.end.0 - l.children.now.next.0) + 6

abbrev pub decreases-field_def : goal.decreases-field_def
decreases-field_def l = 8 * (l.children.now.end.0 - l.children.now.next.0) + 6

abbrev pub decreases-inline : goal.decreases-inline
decreases-inline l = 8 * (l.children.now.end.0 - l.children.now.next.0) + 6

abbrev pub decreases-input : goal.decreases-input
decreases-input l = 8 * (l.children.now.end.0 - l.children.now.next.0) + 6

abbrev pub decreases-list : goal.decreases-list
decreases-list l = 8 * (l.children.now.end.0 - l.children.now.next.0) + 4

abbrev pub decreases-object : goal.decreases-object
decreases-object l = 8 * (l.children.now.end.0 - l.children.now.next.0) + 4

abbrev pub decreases-one : goal.decreases-one
decreases-one l = 8 * (l.children.now.end.0 - l.children.now.next.0) + 1

abbrev pub decreases-opt_braces : goal.decreases-opt_braces
decreases-opt_braces l = 8 * (l.children.now.end.0 - l.children.now.next.0) + 4

abbrev pub decreases-signature : goal.decreases-signature
decreases-signature l = 8 * (l.children.now.end.0 - l.children.now.next.0) + 4

abbrev pub decreases-spread : goal.decreases-spread
decreases-spread l = 8 * (l.children.now.end.0 - l.children.now.next.0) + 6

abbrev pub decreases-variable : goal.decreases-variable
decreases-variable l = 8 * (l.children.now.end.0 - l.children.now.next.0) + 6

abbrev pub invariant-each-loop-class : goal.invariant-each-loop-class
invariant-each-loop-class l =
    Run (words l.printer) (pool l.printer) (said l.settings) (gap_text l.gap (said l.settings)) (meant l.class) l.settings.level l.initial.children l.initial.pen l.children l.pen

abbrev pub decreases-each-loop-class : goal.decreases-each-loop-class
decreases-each-loop-class l = length (ahead l.printer l.children)
