-- None of what the text's bytes passed gave is above the bits so far.
use Rattle.std.proofs.Common.{ℕ, ◌<◌, ◌≤◌, slice_index}
use Rattle.texts.proofs.window.Window.bits.Given as goal

abbrev pub invariant-loop-k : goal.invariant-loop-k
invariant-loop-k g l = (j : ℕ) → j < l.k → j < l.self.length → (x : ℕ) × goal.F-post g l.of (slice_index l.self.bytes.now j) x × (x ≤ l.bits)
