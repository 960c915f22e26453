-- `read_block::text_end` finds the end of the line of the last byte that is neither a blank nor a line end.
use Rattle.std.proofs.lemmas.List.{take_rest}
use Rattle.read_block.proofs.Ends.{no_text_ends, text_ends}
use Rattle.read_block.proofs.text_end.Goals as goal

pub returns-in-Some : goal.returns-in-Some
returns-in-Some c =
    let h = c.in-Some.ensures in
    rw (c.line_length.ensures.value, take_rest) (text_ends _ _ h.0 h.1 h.2)

pub returns-in-None : goal.returns-in-None
returns-in-None c = no_text_ends _ c.in-None.ensures
