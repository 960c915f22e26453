-- `definitions::fragment` meets its contract: the parts of its rule, one after the other.
use Rattle.std.proofs.Common.{refl, ◌++◌}
use Rattle.meaning.specs.Rules.{token, sp, rule_of}
use Rattle.layout.specs.Did.{◌⨾◌, did_tokens, did_name}
use Rattle.serialize.specs.Parts.{did_one}
use Rattle.definitions.proofs.fragment.Goals as goal

pub returns : goal.returns
unfolding rule_of
returns c =
    did_tokens (token "fragment" ++ sp) refl c.write.ensures ⨾ did_name c.name.ensures ⨾ did_tokens (sp ++ token "on" ++ sp) refl c.write-2.ensures
    ⨾ did_one _ c.one.ensures ⨾ c.tail.ensures _
