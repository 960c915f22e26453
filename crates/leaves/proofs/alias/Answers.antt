-- `leaves::alias` meets its contract: the child's name and a colon, or no child and nothing.
use Rattle.std.proofs.Common.{refl, sym, ◌∙◌, ◌++◌}
use Rattle.meaning.specs.Kind
use Rattle.meaning.specs.Children.{a}
use Rattle.meaning.specs.Rules.{child, token, sp}
use Rattle.layout.specs.Jobs.{ranged_within, ranged_text, ranged_node}
use Rattle.layout.specs.Runs.{next_is_there}
use Rattle.layout.specs.Did.{no_child}
use Rattle.leaves.specs.Leaves.{aliased}
use Rattle.leaves.proofs.alias.Goals as goal

pub is_next-requires : goal.is_next-requires
is_next-requires c = ranged_within c.requires

pub name-requires : goal.name-requires
name-requires c = ranged_text c.requires (next_is_there _ _ _ _ (sym c.is_next.ensures ∙ c.if-is_next.true))

pub pass-requires : goal.pass-requires
pass-requires c = ranged_node c.requires (next_is_there _ _ _ _ (sym c.is_next.ensures ∙ c.if-is_next.true))

pub returns-then-is_next : goal.returns-then-is_next
returns-then-is_next c = λ s n.
    aliased c.requires (sym c.is_next.ensures ∙ c.if-is_next.true) c.name.ensures c.pass.ensures c.write.ensures

pub returns-else-is_next : goal.returns-else-is_next
returns-else-is_next c = λ s n.
    no_child (child (a Kind.alias) ++ token ":" ++ sp) c.requires (a Kind.alias) refl
    (sym c.is_next.ensures ∙ c.if-is_next.false)
