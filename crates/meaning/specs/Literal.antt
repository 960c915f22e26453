-- Document 01, "String literals": which form is taken, and the whole literal.
use Rattle.std.specs.Prelude.{Bool, ◌&&◌, ◌||◌, List, ℕ, if◌then◌else◌}
use Rattle.meaning.specs.Ascii.{line_feed}
use Rattle.meaning.specs.Settings.{Settings, indentation}
use Rattle.meaning.specs.Quoted.{quoted}
use Rattle.meaning.specs.Block.{has, can_be_block_string, block_string}

-- "Block form needs breaks on, description or LF present, and: .."
unfoldable pub takes_block : Settings → Bool → List ℕ → Bool
unfolding has can_be_block_string
takes_block s description v = s.breaks && ((description || has line_feed v) && can_be_block_string v)

-- the literal of a value: a description or a string, under the settings
unfoldable pub literal : Settings → Bool → List ℕ → List ℕ
unfolding takes_block indentation block_string quoted
literal s description v = if takes_block s description v then block_string (indentation s) v else quoted v
