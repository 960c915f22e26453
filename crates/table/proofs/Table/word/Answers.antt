-- `Table::word` meets its contract.
use Rattle.std.specs.Prelude.{refl}
use Rattle.meaning.specs.Table.{word}
use Rattle.table.proofs.Table.word.Goals as goal

pub returns : goal.returns
unfolding word
returns c = refl
