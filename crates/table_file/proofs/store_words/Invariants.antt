-- What is left to store is the numbers from the i-th on, at i.
use Rattle.std.proofs.Common.{◌≡◌, ◌+◌, ◌-◌, ◌*◌, length}
use Rattle.std.proofs.lemmas.List.Edits.{sets}
use Rattle.table_file.specs.File.{numbers_at}
use Rattle.table_file.proofs.store_words.Given as goal

abbrev pub invariant-loop-i : goal.invariant-loop-i
invariant-loop-i l =
    (length l.word-items ≡ length l.initial.word-items)
    × (sets l.word-items l.i (numbers_at (l.n - l.i) l.file (16 + 4 * l.i)) ≡ sets l.initial.word-items 0 (numbers_at l.n l.file 16))
