-- One byte asked for twice.
use Rattle.block.specs.Places.{first_of_one}
use Rattle.block.proofs.find.Goals as goal

pub returns : goal.returns
returns c = first_of_one _ c.find_either.ensures
