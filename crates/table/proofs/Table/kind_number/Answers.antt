-- `Table::kind_number` meets its contract: which word it is.
use Rattle.std.proofs.Common.{◌∙◌}
use Rattle.table.specs.Words.{kind_word}
use Rattle.table.proofs.Table.kind_number.Goals as goal

pub returns : goal.returns
returns c = c.word.ensures ∙ kind_word _ _
