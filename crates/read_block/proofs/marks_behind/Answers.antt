-- `read_block::marks_behind` passes over bytes that are no marks.
use Rattle.read_block_laws.specs.Plain.{is_mark}
use Rattle.read_block.proofs.Fronts.{marks_behind}
use Rattle.read_block.proofs.marks_behind.Goals as goal

pub returns : goal.returns
returns c =
    let n = c.length_before.ensures is_mark (λ b r k. k) in
    rw n.1.1 (marks_behind _ n.0 n.1.0)
