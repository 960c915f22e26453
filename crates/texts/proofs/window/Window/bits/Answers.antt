-- One more byte's bits keep what was so of the bytes passed: where the byte is the text's, the mask is full.
use Rattle.std.proofs.Common.{List, [], ◌∷◌, ℕ, ◌+◌, ◌-◌, ◌<◌, ◌≤◌, ◌≡◌, ◌∙◌, le_trans, below_more, bit_or, get_or, length, take, drop, replicate, ◌++◌, arith}
use Rattle.std.specs.List.{flat_map}
use Rattle.std.proofs.lemmas.List.{take_rest, get_or-drop, get_or_append_left, get_or-replicate}
use Rattle.std.proofs.lemmas.Nat.{le_or_l, le_or_r}
use Rattle.std.proofs.Math.Nat.{min-eq_left}
use Rattle.texts.proofs.window.Window.bits.Goals as goal

-- the byte at j gives no more than m, if it is one of the text's n
GivesAtMost : (ℕ → ℕ → Type 0) → ℕ → ℕ → ℕ → Type 0
GivesAtMost gives n m j = j < n → (x : ℕ) × gives j x × (x ≤ m)

higher : (gives : ℕ → ℕ → Type 0) (n k m b : ℕ) → ((j : ℕ) → j < k → GivesAtMost gives n m j) → (j : ℕ) → j < k → GivesAtMost gives n (bit_or m b) j
unfolding GivesAtMost
higher gives n k m b h j l u = let p = h j l u in (p.0, p.1, le_trans p.2 (le_or_l m b))

full : (m : List ℕ) → m ≡ flat_map (λ x. x) (replicate 64 0xFF ∷ replicate 64 0 ∷ []) → (n k : ℕ) → n ≤ 64 → k < n
    → get_or (take (length m - (64 - n)) (drop (64 - n) m)) k 0 ≡ 0xFF
full m is n k u l =
    let at : 64 - n + k < 64 = omega arith in
    rw (take_rest m (64 - n), get_or-drop (64 - n) m k 0, is)
    (get_or_append_left (replicate 64 0xFF) (replicate 64 0 ++ []) 0 (64 - n + k) at ∙ get_or-replicate 64 (64 - n + k) 0xFF 0 at)

pub loop-k-preserved : goal.loop-k-preserved
unfolding GivesAtMost
loop-k-preserved g c =
    let gives = λ (j x : ℕ). goal.F-post g c.args.of (get_or c.args.self.now.bytes.now j 0) x in
    let n = c.args.self.now.length in
    below_more (GivesAtMost gives n _) _ (higher gives n _ _ _ c.loop-k.invariant)
    (λ u.
    let whole = full c.as_flattened.result.now c.as_flattened.ensures.value n c.loop-k.k c.args.self.now.short u in
    let kept : c.min-bits.result ≡ c.of.result = c.min-bits.ensures ∙ rw whole (min-eq_left (omega arith)) in
    (_, c.of.ensures, le_trans (omega (arith, kept)) (le_or_r c.loop-k.bits c.min-bits.result)))

pub returns : goal.returns
returns g c = λ k l u. c.loop-k.invariant k (omega arith) u
