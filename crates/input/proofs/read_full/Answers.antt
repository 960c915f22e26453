-- A read writes behind what came before, so the front of `buf` grows by what it gave.
use Rattle.std.proofs.Common.{◌≡◌, ℕ, ◌+◌, ◌-◌, ◌≤◌, List, ◌++◌, arith, rules, length, take, slice_range, sym, ap, ◌∙◌, subst, le_refl, drop_at, length-take-le}
use Rattle.std.proofs.lemmas.Slice.{take-put_mid_below}
use Rattle.std.specs.Io.KnownBytes.{Consumes}
use Rattle.std.proofs.KnownBytes.{Consumes-trans}
use borrow.Rule.Slice.PartMut.{put_mid, post_of}
use lib.Seq.{take-add, take-append-le}
use Rattle.input.proofs.read_full.Goals as goal

-- the first a of the old list and what stands from a to b in the new one are the first b of the new one
front_grown : (a b : ℕ) (old new : List ℕ) → a ≤ b → take a new ≡ take a old → take a old ++ slice_range new a b ≡ take b new
front_grown a b old new h front =
    let same : a + (b - a) ≡ b = omega arith in
    ap (λ l. l ++ slice_range new a b) (sym front) ∙ sym (take-add a (b - a) new) ∙ ap (λ n. take n new) same

-- what is put in at a stands from there on
put_in : (a k n : ℕ) (xs ys : List ℕ) → a ≤ length xs → n ≤ length ys → slice_range (put_mid a k xs ys) a (a + n) ≡ take n ys
put_in a k n xs ys within fits =
    let same : (a + n) - a ≡ n = omega arith in
    let after = post_of a k xs in
    ap (take ((a + n) - a)) (drop_at (take a xs) (ys ++ after) a (length-take-le a xs within)) ∙ ap (λ m. take m (ys ++ after)) same
    ∙ take-append-le n ys after fits

pub loop-n-preserved : goal.loop-n-preserved
loop-n-preserved g c =
    let n = c.loop-n.n in
    let k = c.in_ok-k.k in
    let old = c.loop-n.buf in
    let room = length old - n in
    let within = c.loop-n.invariant.fits in
    let new = put_mid n room old c.read.new.buf in
    let part = put_in n room k old c.read.new.buf within c.in_ok-k.ensures.bound.0 in
    let joined = front_grown n (n + k) old new (omega arith) (take-put_mid_below _ _ _ _ _ (le_refl _) within) in
    record {
      fits = search rules;
      came = subst (Consumes _ _) (ap (λ l. take n old ++ l) (sym part) ∙ joined) (Consumes-trans _ _ _ _ _ c.loop-n.invariant.came c.in_ok-k.ensures.bytes.0);
    }
