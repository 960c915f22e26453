-- The lent arrays are as long as they were made.
use Rattle.std.proofs.Common.{ℕ, sym}
use Rattle.std.proofs.lemmas.List.{length-replicate}
use Rattle.digest_job.proofs.main.Goals as goal

pub slice_bounds-read_full-end : goal.slice_bounds-read_full-end
slice_bounds-read_full-end c = sym (length-replicate {A = ℕ} 229393 0)

pub slice_bounds-digest_file-end-3 : goal.slice_bounds-digest_file-end-3
slice_bounds-digest_file-end-3 c = sym (length-replicate {A = ℕ} 1048576 0)
