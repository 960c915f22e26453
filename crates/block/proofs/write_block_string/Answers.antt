-- The quotes, what stands between them, and the quotes.
use Rattle.pen.specs.Wrote.{◌⨾◌, wrote_as}
use Rattle.block.specs.Text.{between_quotes}
use Rattle.block.proofs.write_block_string.Goals as goal

pub returns : goal.returns
returns c = wrote_as (c.write.ensures ⨾ c.write_between.ensures ⨾ c.write-2.ensures) (between_quotes _ _)
