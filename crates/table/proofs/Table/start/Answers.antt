-- `Table::start` meets its contract: which word it is.
use Rattle.std.proofs.Common.{arith, ◌∙◌}
use Rattle.table.specs.Words.{word_small, start_word}
use Rattle.table.proofs.Table.start.Goals as goal

pub returns : goal.returns
returns c = word_small (c.word.ensures ∙ start_word _ _) (omega arith)
