-- `definitions::type_extension` meets its contract: the parts of its rule, one after the other.
use Rattle.std.proofs.Common.{refl}
use Rattle.meaning.specs.Rules.{extend}
use Rattle.layout.specs.Did.{◌⨾◌, did_tokens}
use Rattle.definitions.proofs.type_extension.Goals as goal

pub returns : goal.returns
returns c = did_tokens extend refl c.write.ensures ⨾ c.type_like.ensures
