-- `names::past_digits` meets its contract: what stands behind as many bytes as are digits.
use Rattle.std.proofs.Common.{◌≡◌, ◌∙◌, sym, rules, tests}
use Rattle.std.proofs.lemmas.Iterator.{YieldsList-from_slice}
use Rattle.std.proofs.lemmas.Iterator.Consumers.{count_from_yields_List}
use Rattle.std.proofs.lemmas.Iterator.Search.{YieldsList-from_take_while}
use Rattle.std.proofs.lemmas.List.{take_rest}
use Rattle.std.proofs.lemmas.List.Folds.{length-prefix_len}
use Rattle.std.specs.List.{prefix_len}
use Rattle.meaning.specs.Text.{is_digit}
use Rattle.names.proofs.Runs.{past_digits_drop}
use Rattle.names.proofs.past_digits.Goals as goal

pub returns : goal.returns
returns c =
    let s = c.args.s.now in
    let n : c.count-n.result ≡ prefix_len is_digit s = count_from_yields_List c.take_while.result _ c.count-n.ensures.ran
    (YieldsList-from_take_while _ is_digit (YieldsList-from_slice s cc) c.take_while.ensures.closure c.take_while.ensures.done (λ x b q k. search (rules, tests)))
    ∙ length-prefix_len is_digit s in
    rw (n, take_rest s (prefix_len is_digit s)) (sym (past_digits_drop s))
