-- `definitions::type_like` meets its contract: a function for each kind.
use Rattle.std.proofs.Common.{rules, refl, sym, ◌≡◌, []}
use Rattle.pen.specs.Wrote.{wrote_none}
use Rattle.layout.specs.Did.{did_tokens}
use Rattle.definitions.specs.Segments.{did_as, body}
use Rattle.definitions.proofs.type_like.Goals as goal

pub returns-in_default : goal.returns-in_default
returns-in_default c =
    let e : body c.args.kind ≡ [] = search rules in
    did_as (sym e) (did_tokens [] refl wrote_none)
