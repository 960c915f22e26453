-- The form that is chosen is the one that the literal takes.
use Rattle.meaning.specs.Literal.{takes_block}
use Rattle.pen.specs.Wrote.{wrote_as}
use Rattle.literal.specs.Chosen.{chosen_is_literal}
use Rattle.literal.proofs.serialize_string_value.Goals as goal

pub returns : goal.returns
unfolding takes_block
returns c = wrote_as c.write_chosen.ensures (chosen_is_literal _ _ _ _ _ _ c.takes_block-blockwise.ensures)
