-- Neither byte stands from `from` up to there, since neither is among the bytes of each part.
use Rattle.std.proofs.Common.{◌≡◌, drop}
use Rattle.std.specs.Slice.Iter.{chunks_exact_rest, chunks_exact_size}
use Rattle.block.specs.Places.{Clear, byte_that, is_either}
use Rattle.block.proofs.skip_without.Given as goal

abbrev pub invariant-loop-part : goal.invariant-loop-part
invariant-loop-part l =
    Clear (byte_that (is_either l.a l.b)) l.value l.from l.clear
    × (chunks_exact_rest l.part-iterator ≡ drop l.clear l.value)
    × (chunks_exact_size l.part-iterator ≡ 16)
