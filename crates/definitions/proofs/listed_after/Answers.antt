-- `definitions::listed_after` meets its contract: the list after the token, or nothing.
use Rattle.std.proofs.Common.{sym, ◌∙◌, ◌++◌, ◌∷◌, []}
use Rattle.meaning.specs.Children.{a}
use Rattle.meaning.specs.Rules.{child, separated}
use Rattle.pen.specs.Wrote.{wrote_as}
use Rattle.layout.specs.Jobs.{ranged}
use Rattle.layout.specs.Did.{◌⨾◌, did_tokens, a_child, no_child}
use Rattle.definitions.specs.Segments.{plain_and_list_close}
use Rattle.definitions.proofs.listed_after.Goals as goal

pub returns-then-is_next : goal.returns-then-is_next
returns-then-is_next c = λ n ps sign x y z.
    a_child _ (ranged c.args.printer.now.shaped c.requires.range) _ (sym c.is_next.ensures ∙ c.if-is_next.true)
    (did_tokens ps x (wrote_as c.write.ensures (sym y)) ⨾ c.listed.ensures n sign z)

pub returns-else-is_next : goal.returns-else-is_next
returns-else-is_next c = λ n ps sign x y z.
    no_child (ps ++ (child (a _) ++ separated sign (a _) ∷ [])) (ranged c.args.printer.now.shaped c.requires.range) _
    (plain_and_list_close sign _ ps x) (sym c.is_next.ensures ∙ c.if-is_next.false)
