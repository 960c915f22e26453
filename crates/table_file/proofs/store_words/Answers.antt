-- What is left to store is the numbers from the i-th on, at i.
use Rattle.std.proofs.Common.{◌≡◌, ◌∙◌, sym, ap, rules, arith, List, ℕ, ◌++◌, take, drop, length, [], length-take-le, drop_of_length-le, append-nil}
use Rattle.table_file.proofs.Files.{store_number, store_none, store_all}
use Rattle.table_file.proofs.store_words.Goals as goal

pub loop-i-preserved : goal.loop-i-preserved
loop-i-preserved c =
    let n = length-take-le c.args.n c.args.out.now c.requires.1 in
    (search rules, store_number _ _ c.loop-i.i _ _ (omega (arith, n, c.loop-i-test.true)) c.number.ensures ∙ c.loop-i.invariant.1)

pub returns : goal.returns
returns c =
    let front = take c.args.n c.args.out.now in
    let n = length-take-le c.args.n c.args.out.now c.requires.1 in
    let all = store_all front c.args.file.now c.args.n (omega (arith, n)) in
    let none : drop c.args.n front ≡ [] = drop_of_length-le front (omega (arith, n)) in
    let whole = rw none at all ∙ append-nil _ in
    ap (λ (d : List ℕ). d ++ drop c.args.n c.args.out.now)
    (sym (store_none _ _ c.loop-i.i _ (omega (arith, n, c.loop-i-test.false))) ∙ c.loop-i.invariant.1 ∙ whole)
