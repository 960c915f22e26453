-- `Table::variant` meets its contract: which word it is.
use Rattle.std.proofs.Common.{arith, ◌∙◌}
use Rattle.table.specs.Words.{word_small, variant_word}
use Rattle.table.proofs.Table.variant.Goals as goal

pub returns : goal.returns
returns c = word_small (c.word.ensures ∙ variant_word _ _) (omega arith)
