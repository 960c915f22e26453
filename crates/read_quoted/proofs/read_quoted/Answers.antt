-- The value is stored nowhere first, which tells its length. Where there is room it is stored again.
use Rattle.std.proofs.Common.{◌≡◌, ◌∙◌, arith, rules, List, ℕ, ◌<◌, ◌+◌, ◌≤◌, length, drop, slice_range, Bor, Option, Some, None, Err}
use Rattle.std.proofs.lemmas.List.{take_rest}
use Rattle.std.specs.Option.{MatchOption}
use Rattle.meaning.specs.declared.Refusal.TheVariants.{Literal}
use Rattle.read_quoted.specs.Outcomes.{no_value, value_too_long, value_written}
use Rattle.read_quoted.specs.Walks.{not_closed}
use Rattle.read_quoted.proofs.read_quoted.Goals as goal

-- the text behind its first byte
behind_quote : (A : Type 0) (s : List ℕ) (body : Bor (List ℕ)) {r : Option (Bor (List ℕ))} → r ≡ Some body
    → MatchOption r A (λ x. (1 ≤ length s) × (length s ≤ length s) × (x.now ≡ slice_range s 1 (length s)) × (length x.now + 1 ≡ length s))
    → body.now ≡ drop 1 s
behind_quote A s body e h = let g = rw e at h in g.2 ∙ take_rest s 1

pub returns-in_err-body : goal.returns-in_err-body
returns-in_err-body c =
    let e : c.from_residual.result ≡ Err Literal = search rules in
    let n : c.get.result ≡ None = c.ok_or.ensures.ok_part ∙ rw c.in_err-body.was in
    let h : length c.args.text.now < 1 = omega (arith, rw n at c.get.ensures.lookup) in
    rw e (no_value _ _ (not_closed c.args.text.now 1 (omega arith)))

pub returns-in_err-length : goal.returns-in_err-length
returns-in_err-length c =
    let e : c.from_residual-in_err-length.result ≡ Err Literal = search rules in
    let n : c.store.result ≡ None = c.ok_or-2.ensures.ok_part ∙ rw c.in_err-length.was in
    rw (e, ← behind_quote _ c.args.text.now c.in_ok-body.body (c.ok_or.ensures.ok_part ∙ rw c.in_ok-body.was) c.get.ensures.lookup.0)
    (no_value _ _ (rw n at c.store.ensures))

pub returns-then-out-length : goal.returns-then-out-length
returns-then-out-length c =
    let n : c.store.result ≡ Some c.in_ok-length.length = c.ok_or-2.ensures.ok_part ∙ rw c.in_ok-length.was in
    rw (← behind_quote _ c.args.text.now c.in_ok-body.body (c.ok_or.ensures.ok_part ∙ rw c.in_ok-body.was) c.get.ensures.lookup.0)
    (value_too_long (rw n at c.store.ensures) _ c.if-out-length.true)

pub returns : goal.returns
returns c =
    let n : c.store.result ≡ Some c.in_ok-length.length = c.ok_or-2.ensures.ok_part ∙ rw c.in_ok-length.was in
    rw (← behind_quote _ c.args.text.now c.in_ok-body.body (c.ok_or.ensures.ok_part ∙ rw c.in_ok-body.was) c.get.ensures.lookup.0)
    (value_written (rw n at c.store.ensures) _ _ _ c.if-out-length.false c.store-2.ensures)
