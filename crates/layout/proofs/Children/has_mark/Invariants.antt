-- What is left to look at tells, since no child that was passed has the mark.
use Rattle.std.proofs.Common.{◌≡◌, ◌-◌}
use Rattle.layout.specs.Jobs.{Ranged}
use Rattle.layout.specs.Marks.{mark_among}
use Rattle.layout.proofs.Children.has_mark.Given as goal

abbrev pub invariant-loop-self : goal.invariant-loop-self
invariant-loop-self l =
    Ranged l.table.words.now l.table.pool.now l.self.next.0 l.self.end.0
    × (mark_among l.table.words.now l.table.pool.now l.self.next.0 l.self.end.0
    ≡ mark_among l.table.words.now l.table.pool.now l.initial.self.next.0 l.initial.self.end.0)

abbrev pub decreases-loop-self : goal.decreases-loop-self
decreases-loop-self l = l.self.end.0 - l.self.next.0
