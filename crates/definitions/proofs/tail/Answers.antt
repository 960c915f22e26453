-- `definitions::tail` meets its contract: the parts of its rule, one after the other.
use Rattle.std.proofs.Common.{refl}
use Rattle.meaning.specs.Rules.{sp}
use Rattle.layout.specs.Did.{◌⨾◌, did_tokens}
use Rattle.serialize.specs.Parts.{did_spaced, did_braces}
use Rattle.definitions.proofs.tail.Goals as goal

pub returns : goal.returns
returns c = λ n. did_spaced _ c.directives.ensures ⨾ did_tokens sp refl c.write.ensures ⨾ did_braces _ c.curly.ensures
