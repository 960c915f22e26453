-- `definitions::scalar` meets its contract: the parts of its rule, one after the other.
use Rattle.std.proofs.Common.{refl, ◌++◌}
use Rattle.meaning.specs.Rules.{token, sp}
use Rattle.layout.specs.Did.{◌⨾◌, did_tokens, did_name}
use Rattle.serialize.specs.Parts.{did_spaced}
use Rattle.definitions.proofs.scalar.Goals as goal

pub returns : goal.returns
returns c = did_tokens (token "scalar" ++ sp) refl c.write.ensures ⨾ did_name c.name.ensures ⨾ did_spaced _ c.directives.ensures
