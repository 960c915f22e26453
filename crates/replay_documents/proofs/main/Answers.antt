-- The lent array is as long as it was made, and no more came than it holds.
use Rattle.std.proofs.Common.{ℕ, sym, length-take-le}
use Rattle.std.proofs.lemmas.List.{length-replicate}
use Rattle.replay_documents.proofs.main.Goals as goal

pub slice_bounds-read_full-end : goal.slice_bounds-read_full-end
slice_bounds-read_full-end c = sym (length-replicate {A = ℕ} 524288 0)

pub slice_bounds-input-end : goal.slice_bounds-input-end
slice_bounds-input-end c = c.in_ok-n.ensures.bound

pub slice_bounds-replay-end : goal.slice_bounds-replay-end
slice_bounds-replay-end c = sym (length-take-le c.in_ok-n.n _ c.in_ok-n.ensures.bound)
