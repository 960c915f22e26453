-- `definitions::listed` meets its contract: the first, and a walk over the others.
use Rattle.layout.specs.Jobs.{here}
use Rattle.layout.specs.Did.{◌⨾◌, jobs_walked}
use Rattle.serialize.specs.Parts.{did_one}
use Rattle.definitions.specs.Segments.{did_separated}
use Rattle.definitions.proofs.listed.Goals as goal

pub each-requires : goal.each-requires
each-requires c = here (jobs_walked c.requires c.one.ensures)

pub returns : goal.returns
returns c = λ n sign z. did_one _ c.one.ensures ⨾ did_separated _ sign z c.each.ensures
