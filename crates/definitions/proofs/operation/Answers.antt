-- `definitions::operation` meets its contract: the parts of its rule, one after the other.
use Rattle.std.proofs.Common.{refl}
use Rattle.meaning.specs.Rules.{sp, rule_of}
use Rattle.layout.specs.Did.{◌⨾◌, jobs_walked}
use Rattle.definitions.proofs.operation.Goals as goal

pub tail-requires : goal.tail-requires
tail-requires c = jobs_walked c.requires.jobs (c.arguments.ensures 0).walked

pub returns : goal.returns
unfolding rule_of
returns c = c.operation_type.ensures _ _ _ ⨾ c.if_named.ensures _ _ sp refl refl ⨾ c.arguments.ensures _ ⨾ c.tail.ensures _
