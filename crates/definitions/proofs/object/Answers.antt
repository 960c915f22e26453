-- `definitions::object` meets its contract: the parts of its rule, one after the other.
use Rattle.std.proofs.Common.{refl, ◌++◌}
use Rattle.meaning.specs.Rules.{token, sp}
use Rattle.layout.specs.Did.{◌⨾◌, did_tokens}
use Rattle.definitions.proofs.object.Goals as goal

pub returns : goal.returns
returns c = did_tokens (token "type" ++ sp) refl c.write.ensures ⨾ c.object_type_like.ensures
