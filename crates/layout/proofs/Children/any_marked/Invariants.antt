-- What is left to look at tells, since no argument definition that was passed is marked.
use Rattle.std.proofs.Common.{◌≡◌, ◌-◌}
use Rattle.meaning.specs.Children.{a}
use Rattle.layout.specs.Jobs.{Ranged}
use Rattle.layout.specs.Marks.{marked_run}
use Rattle.layout.proofs.Children.any_marked.Given as goal

abbrev pub invariant-loop-self : goal.invariant-loop-self
invariant-loop-self l =
    Ranged l.table.words.now l.table.pool.now l.self.next.0 l.self.end.0
    × (marked_run l.table.words.now l.table.pool.now (a 22) l.self.next.0 l.self.end.0
    ≡ marked_run l.table.words.now l.table.pool.now (a 22) l.initial.self.next.0 l.initial.self.end.0)

abbrev pub decreases-loop-self : goal.decreases-loop-self
decreases-loop-self l = l.self.end.0 - l.self.next.0
