-- `read_block::write_value` answers as the definition does. Where the source is no longer than the output, neither is its text;
-- otherwise the text is measured before a byte of it is written.
use Rattle.std.proofs.Common.{arith, ◌≤◌, length}
use Rattle.read_block_laws.specs.Text.{text_of}
use Rattle.read_block_laws.specs.Short.{rest_is_short}
use Rattle.read_block.proofs.Answered.{value_is_stored, room_is_short}
use Rattle.read_block.proofs.write_value.Goals as goal

pub returns-then-out-needed : goal.returns-then-out-needed
returns-then-out-needed c = room_is_short _ _ _ c.store-needed.ensures.length c.if-out-needed.true

pub returns : goal.returns
returns c =
    let v = text_of c.args.n c.args.text.now in
    let fits : length v ≤ length c.args.out.now = grind (arith, rest_is_short c.args.n c.args.text.now 0) in
    value_is_stored v _ _ _ c.store.ensures.length fits (c.store.ensures.stored fits)
