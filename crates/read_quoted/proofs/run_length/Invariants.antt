-- Up to `end` every byte stands for itself: the run from there on ends where the run at the front does.
use Rattle.std.proofs.Common.{◌≡◌, ◌+◌, ◌-◌, length, drop}
use Rattle.read_quoted.specs.Runs.{plain_run}
use Rattle.read_quoted.proofs.run_length.Given as goal

abbrev pub invariant-loop-b : goal.invariant-loop-b
invariant-loop-b l = l.end + plain_run (drop l.end l.text) ≡ plain_run l.text

abbrev pub decreases-loop-b : goal.decreases-loop-b
decreases-loop-b l = length l.text - l.end
