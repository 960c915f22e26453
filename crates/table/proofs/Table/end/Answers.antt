-- `Table::end` meets its contract: which word it is.
use Rattle.std.proofs.Common.{arith, ◌∙◌}
use Rattle.table.specs.Words.{word_small, end_word}
use Rattle.table.proofs.Table.end.Goals as goal

pub returns : goal.returns
returns c = word_small (c.word.ensures ∙ end_word _ _) (omega arith)
