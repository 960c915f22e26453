-- At each turn the children from `child` on fill the state exactly if all of them fill the first state.
use Rattle.std.proofs.Common.{◌≡◌, ◌-◌}
use Rattle.meaning.specs.Refusals.{node_in}
use Rattle.children.specs.Shaped.{from}
use Rattle.children.specs.Walk.{fills}
use Rattle.children.specs.States.{state_of}
use Rattle.children.proofs.fits.Given as goal

abbrev pub invariant-loop-child : goal.invariant-loop-child
invariant-loop-child l =
    fills (node_in l.table.words.now) (state_of l.state.number) (from l.table.words.now l.child l.end)
    ≡ fills (node_in l.table.words.now) (state_of l.fn.state.number) (from l.table.words.now l.fn.child l.end)

abbrev pub decreases-loop-child : goal.decreases-loop-child
decreases-loop-child l = l.end - l.child
