-- `definitions::directive_definition` meets its contract: the parts of its rule, one after the other.
use Rattle.std.proofs.Common.{refl, ◌++◌}
use Rattle.meaning.specs.Ascii.{ascii}
use Rattle.meaning.specs.Rules.{token, sp, rule_of}
use Rattle.layout.specs.Did.{◌⨾◌, did_tokens, did_name, jobs_walked}
use Rattle.definitions.proofs.directive_definition.Goals as goal

pub arguments_def-requires : goal.arguments_def-requires
arguments_def-requires c = jobs_walked c.requires.jobs (c.serialize_description.ensures 0).walked

pub listed-requires : goal.listed-requires
listed-requires c = jobs_walked (jobs_walked c.requires.jobs (c.serialize_description.ensures 0).walked) (c.arguments_def.ensures 0).walked

pub returns : goal.returns
unfolding rule_of
returns c =
    c.serialize_description.ensures _ ⨾ did_tokens (token "directive" ++ sp ++ token "@") refl c.write.ensures ⨾ did_name c.name.ensures
    ⨾ c.arguments_def.ensures _ ⨾ c.if_one.ensures _ _ _ (sp ++ token "repeatable") refl refl
    ⨾ did_tokens (sp ++ token "on" ++ sp) refl c.write-2.ensures ⨾ c.listed.ensures _ (ascii "|") refl
