-- What is left to write are the lines from `from` on: the first of them ends at the next LF, and the others stand behind it.
use Rattle.std.proofs.Common.{◌≤◌, ◌-◌, length, drop}
use Rattle.meaning.specs.Block.{lines, block_lines}
use Rattle.meaning.specs.Settings.{times}
use Rattle.pen.specs.Wrote.{Left}
use Rattle.block.proofs.write_lines.Given as goal

abbrev pub invariant-loop-from : goal.invariant-loop-from
invariant-loop-from l =
    let text = block_lines (times l.settings.level l.settings.prefix.now) in
    (l.from ≤ length l.value) × Left l.initial.pen (text (lines l.value)) l.pen (text (lines (drop l.from l.value)))

abbrev pub decreases-loop-from : goal.decreases-loop-from
decreases-loop-from l = length l.value - l.from
