-- The library's test of a front is `same`.
use Rattle.std.proofs.Common.{◌∙◌, take}
use Rattle.table_file.specs.File.{magic, is_table_file}
use Rattle.table_file.proofs.Files.{same_pointwise}
use Rattle.table_file.proofs.is_table_file.Goals as goal

pub returns : goal.returns
unfolding is_table_file
returns c = c.starts_with.ensures.value ∙ same_pointwise (take 8 c.args.file.now) magic
