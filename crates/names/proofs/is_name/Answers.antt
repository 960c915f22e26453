-- `names::is_name` meets its contract: its first byte begins a name, and each other goes on with it.
use Rattle.std.proofs.Common.{rules, tests, ◌||◌}
use Rattle.std.proofs.lemmas.Iterator.{YieldsList-from_slice}
use Rattle.std.proofs.lemmas.Iterator.Search.{all_from_yields_List}
use Rattle.std.proofs.lemmas.List.{take_rest}
use Rattle.meaning.specs.Text.{is_digit, starts_name}
use Rattle.names.proofs.Runs.{name_by_bytes}
use Rattle.names.proofs.is_name.Goals as goal

pub returns-then-starts_name : goal.returns-then-starts_name
returns-then-starts_name c =
    let all = all_from_yields_List (λ b. starts_name b || is_digit b) _ _ c.all.result c.all.ensures.ran
    (YieldsList-from_slice _ c.iter.ensures.rest) (λ x b q k. search (rules, tests)) in
    rw (name_by_bytes c.args.s.now c.in-len1-up.len_at_least, ← c.starts_name.ensures, c.if-starts_name.true) (rw (take_rest c.args.s.now 1) at all)
