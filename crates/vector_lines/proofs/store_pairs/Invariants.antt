-- What is left to store is the pairs from i on, at i.
use Rattle.std.proofs.Common.{◌≡◌, length, drop}
use Rattle.std.proofs.lemmas.List.Edits.{sets}
use Rattle.vector_lines.specs.Hex.{pairs}
use Rattle.vector_lines.proofs.store_pairs.Given as goal

abbrev pub invariant-loop-i : goal.invariant-loop-i
invariant-loop-i l =
    (length l.byte-items ≡ length l.initial.byte-items) × (sets l.byte-items l.i (drop l.i (pairs l.s)) ≡ sets l.initial.byte-items 0 (pairs l.s))
