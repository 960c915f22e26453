-- The library's search, behind the bytes that were passed sixteen at a time.
use Rattle.std.proofs.Common.{rules, tests, ◌≡◌, ◌∙◌, refl, drop, take, length, take_all, length-drop, arith, ◌-◌}
use Rattle.std.proofs.lemmas.Iterator.{YieldsList-from_slice}
use Rattle.std.proofs.lemmas.Iterator.Search.{position_from_yields_List}
use Rattle.block.specs.Places.{is_either, found_by_position}
use Rattle.block.proofs.find_either.Goals as goal

pub returns : goal.returns
returns c =
    let i = c.skip_without-start.result in
    let v = c.args.value.now in
    let p = is_either c.args.a c.args.b in
    let rest : take (length v - i) (drop i v) ≡ drop i v = take_all _ _ (omega (arith, length-drop i v)) in
    let e = rw rest at c.unwrap_or.ensures in
    let f = position_from_yields_List p _ _ c.position-run.result c.position-run.ensures.ran (YieldsList-from_slice _ (c.iter.ensures.rest ∙ rest)) (λ x b q k. search (rules, tests)) in
    found_by_position p c.skip_without-start.ensures (rw (e, f) refl)
