-- `read_block::store`: a text is no longer than its source, so its length has a number.
use Rattle.std.proofs.Common.{arith, rules, ◌∙◌, ◌≤◌, length}
use Rattle.pen.specs.Put.{last}
use Rattle.pen.specs.Wrote.{wrote_front, wrote_told}
use Rattle.read_block_laws.specs.Text.{text_of}
use Rattle.read_block_laws.specs.Short.{rest_is_short}
use Rattle.read_block.proofs.store.Goals as goal

pub returns-clause-length : goal.returns-clause-length
returns-clause-length c =
    let short : length (text_of c.args.n c.args.text.now) ≤ last = omega (arith, rest_is_short c.args.n c.args.text.now 0) in
    wrote_told c.over-pen.ensures c.write_text.ensures short

pub returns-clause-stored : goal.returns-clause-stored
returns-clause-stored c =
    λ fits.
    let front = wrote_front c.over-pen.ensures c.write_text.ensures fits in
    let same = c.write_text.ensures.same ∙ c.over-pen.ensures.same in
    search rules
