-- `definitions::schema` meets its contract: the parts of its rule, one after the other.
use Rattle.std.proofs.Common.{refl}
use Rattle.meaning.specs.Rules.{token, sp, rule_of}
use Rattle.layout.specs.Jobs.{here}
use Rattle.layout.specs.Did.{◌⨾◌, did_tokens, jobs_walked}
use Rattle.serialize.specs.Parts.{did_spaced, did_braces}
use Rattle.definitions.proofs.schema.Goals as goal

pub directives-requires : goal.directives-requires
directives-requires c = here (jobs_walked c.requires.jobs (c.serialize_description.ensures 0).walked)

pub curly-requires : goal.curly-requires
curly-requires c = jobs_walked (jobs_walked c.requires.jobs (c.serialize_description.ensures 0).walked) c.directives.ensures

pub returns : goal.returns
unfolding rule_of
returns c =
    c.serialize_description.ensures _ ⨾ did_tokens (token "schema") refl c.write.ensures ⨾ did_spaced _ c.directives.ensures
    ⨾ did_tokens sp refl c.write-2.ensures ⨾ did_braces _ c.curly.ensures
