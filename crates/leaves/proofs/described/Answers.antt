-- `leaves::described` meets its contract: the child's literal and a new line.
use Rattle.layout.specs.Jobs.{ranged_text, ranged_node}
use Rattle.layout.specs.Runs.{next_is_there}
use Rattle.leaves.specs.Leaves.{described}
use Rattle.leaves.proofs.described.Goals as goal

pub string_value-requires : goal.string_value-requires
string_value-requires c = ranged_text c.requires.range (next_is_there _ _ _ _ c.requires.next)

pub pass-requires : goal.pass-requires
pass-requires c = ranged_node c.requires.range (next_is_there _ _ _ _ c.requires.next)

pub returns : goal.returns
returns c = λ n. described c.requires.range c.requires.next c.string_value.ensures c.pass.ensures c.new_line_or_space.ensures
