-- `Table::length` meets its contract: which word it is.
use Rattle.std.proofs.Common.{arith, ◌∙◌}
use Rattle.table.specs.Words.{word_small, length_word}
use Rattle.table.proofs.Table.length.Goals as goal

pub returns : goal.returns
returns c = word_small (c.word.ensures ∙ length_word _ _) (omega arith)
