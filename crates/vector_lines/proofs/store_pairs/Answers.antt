-- What is left to store is the pairs from i on, at i.
use Rattle.std.proofs.Common.{◌≡◌, ◌/◌, List, ℕ, [], ◌++◌, length, take, drop, ◌∙◌, sym, ap, arith, rules, length-take-le, drop_of_length-le, append-nil}
use Rattle.vector_lines.specs.Hex.{pairs}
use Rattle.vector_lines.proofs.Hex.{pairs_length, store_more, store_end, store_whole}
use Rattle.vector_lines.proofs.store_pairs.Goals as goal

pub slice_bounds-byte-items-end : goal.slice_bounds-byte-items-end
slice_bounds-byte-items-end c = omega (arith, pairs_length c.args.s.now)

pub slice_bounds-byte-items-end-2 : goal.slice_bounds-byte-items-end-2
slice_bounds-byte-items-end-2 c =
    let p = pairs_length c.args.s.now in
    omega (arith, p, length-take-le (length c.args.s.now / 2) c.args.out.now (omega (arith, p)))

pub pair-requires : goal.pair-requires
pair-requires c =
    let p = pairs_length c.args.s.now in
    (c.requires.0, omega (arith, p, length-take-le (length c.args.s.now / 2) c.args.out.now (omega (arith, p)), c.loop-i-test.true))

pub loop-i-preserved : goal.loop-i-preserved
loop-i-preserved c =
    let p = pairs_length c.args.s.now in
    let n = length-take-le (length c.args.s.now / 2) c.args.out.now (omega (arith, p)) in
    (search rules, store_more _ (pairs c.args.s.now) _ _ (omega (arith, p, n, c.loop-i-test.true)) c.pair.ensures ∙ c.loop-i.invariant.1)

pub returns : goal.returns
returns c =
    let half = length c.args.s.now / 2 in
    let front = take half c.args.out.now in
    let p = pairs_length c.args.s.now in
    let n = length-take-le half c.args.out.now (omega (arith, p)) in
    let none : drop (length (pairs c.args.s.now)) front ≡ [] = drop_of_length-le front (omega (arith, n, p)) in
    let whole = rw none at (store_whole front (pairs c.args.s.now) (omega (arith, n, p))) ∙ append-nil _ in
    rw p (ap (λ (d : List ℕ). d ++ drop half c.args.out.now)
    (sym (store_end _ _ c.loop-i.i (omega (arith, n, p, c.loop-i-test.false))) ∙ c.loop-i.invariant.1 ∙ whole))
