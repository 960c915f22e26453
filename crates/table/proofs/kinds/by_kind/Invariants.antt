-- The kinds passed have their bytes.
use Rattle.std.proofs.Common.{ℕ, ◌≡◌, ◌<◌, slice_index}
use Rattle.meaning.specs.KindNumbers.{kind_number}
use Rattle.meaning.specs.declared.kind.Kind.{Kind}
use Rattle.table.proofs.kinds.by_kind.Given as goal

abbrev pub invariant-loop-number : goal.invariant-loop-number
invariant-loop-number g l =
    (k : ℕ) → k < l.number → (kind : Kind) × (kind_number kind ≡ k) × goal.F-post g l.f kind (slice_index l.byte-items k)
