-- The window's first bytes are the pool's from the text's start on.
use Rattle.std.proofs.Common.{◌∙◌, ap, length, take, length-take-le, arith}
use Rattle.std.proofs.lemmas.List.{take-take, take_rest}
use Rattle.texts.proofs.window.Window.on.Goals as goal

pub invariant_of-result : goal.invariant_of-result
invariant_of-result c =
    let first = c.in_ok-bytes.ensures.cases in
    record { whole = ap length first.same ∙ length-take-le 64 _ first.enough; short = omega arith }

pub returns : goal.returns
returns c =
    let n = c.args.length in
    ap (take n) (c.in_ok-bytes.ensures.cases.same ∙ ap (take 64) (take_rest c.args.pool.now c.args.start)) ∙ take-take n 64 _ (omega arith)
