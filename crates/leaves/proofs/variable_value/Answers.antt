-- `leaves::variable_value` meets its contract: the parts of its rule.
use Rattle.std.proofs.Common.{refl}
use Rattle.meaning.specs.Rules.{rule_of, token}
use Rattle.layout.specs.Did.{◌⨾◌, did_tokens, did_name}
use Rattle.leaves.proofs.variable_value.Goals as goal

pub returns : goal.returns
unfolding rule_of
returns c = λ s at. did_tokens (token "$") refl c.write.ensures ⨾ did_name c.name.ensures
