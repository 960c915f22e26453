-- `definitions::object_type_like` meets its contract: the parts of its rule, one after the other.
use Rattle.std.proofs.Common.{refl, ◌++◌}
use Rattle.meaning.specs.Ascii.{ascii}
use Rattle.meaning.specs.Rules.{token, sp}
use Rattle.layout.specs.Jobs.{here}
use Rattle.layout.specs.Did.{◌⨾◌, did_name, jobs_walked}
use Rattle.serialize.specs.Parts.{did_spaced}
use Rattle.definitions.proofs.object_type_like.Goals as goal

pub directives-requires : goal.directives-requires
directives-requires c = here (jobs_walked c.requires.jobs (c.listed_after.ensures 0 (sp ++ token "implements" ++ sp) (ascii "&") refl refl refl).walked)

pub opt_braces-requires : goal.opt_braces-requires
opt_braces-requires c = jobs_walked (jobs_walked c.requires.jobs (c.listed_after.ensures 0 (sp ++ token "implements" ++ sp) (ascii "&") refl refl refl).walked) c.directives.ensures

pub returns : goal.returns
returns c =
    did_name c.name.ensures ⨾ c.listed_after.ensures _ (sp ++ token "implements" ++ sp) (ascii "&") refl refl refl
    ⨾ did_spaced _ c.directives.ensures ⨾ c.opt_braces.ensures _
