-- `leaves::root_operation` meets its contract: the parts of its rule.
use Rattle.std.proofs.Common.{refl, ◌++◌}
use Rattle.meaning.specs.Rules.{rule_of, token, sp}
use Rattle.layout.specs.Did.{◌⨾◌, did_tokens, did_name}
use Rattle.leaves.proofs.root_operation.Goals as goal

pub returns : goal.returns
unfolding rule_of
returns c = λ s at. c.operation_type.ensures _ s at ⨾ did_tokens (token ":" ++ sp) refl c.write.ensures ⨾ did_name c.name.ensures
