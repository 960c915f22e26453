-- `definitions::schema_extension` meets its contract: the parts of its rule, one after the other.
use Rattle.std.proofs.Common.{refl, ◌++◌}
use Rattle.meaning.specs.Rules.{token, sp, rule_of}
use Rattle.layout.specs.Did.{◌⨾◌, did_tokens}
use Rattle.serialize.specs.Parts.{did_spaced}
use Rattle.definitions.proofs.schema_extension.Goals as goal

pub returns : goal.returns
unfolding rule_of
returns c = did_tokens (token "extend" ++ sp ++ token "schema") refl c.write.ensures ⨾ did_spaced _ c.directives.ensures ⨾ c.opt_braces.ensures _
