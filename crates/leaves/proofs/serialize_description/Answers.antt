-- `leaves::serialize_description` meets its contract: no child is next, or it is printed.
use Rattle.std.proofs.Common.{refl, sym, ◌∙◌, ◌∷◌, [], ◌++◌}
use Rattle.meaning.specs.Kind
use Rattle.meaning.specs.Children.{a}
use Rattle.meaning.specs.Rules.{child, new_line_or_space}
use Rattle.layout.specs.Jobs.{ranged_within}
use Rattle.layout.specs.Did.{no_child}
use Rattle.leaves.proofs.serialize_description.Goals as goal

pub is_next-requires : goal.is_next-requires
is_next-requires c = ranged_within c.requires

pub described-requires : goal.described-requires
described-requires c = record { range = c.requires; next = sym c.is_next.ensures ∙ c.if-is_next.true }

pub returns-then-is_next : goal.returns-then-is_next
returns-then-is_next c = c.described.ensures

pub returns-else-is_next : goal.returns-else-is_next
returns-else-is_next c = λ n.
    no_child (child (a Kind.description) ++ new_line_or_space ∷ []) c.requires (a Kind.description) refl
    (sym c.is_next.ensures ∙ c.if-is_next.false)
