-- `read_block::line_length`: no line end is passed over as no mark.
use Rattle.std.proofs.Common.{◌∙◌, arith}
use Rattle.read_block_laws.specs.FirstLine.{is_line_end, first_line_within}
use Rattle.read_block.proofs.Fronts.{line_behind}
use Rattle.read_block.proofs.line_length.Goals as goal

pub returns-clause-value : goal.returns-clause-value
returns-clause-value c =
    let n = c.length_before.ensures is_line_end (λ b r k. k) in
    n.1.1 ∙ line_behind _ n.0 n.1.0

pub returns-clause-within : goal.returns-clause-within
returns-clause-within c =
    let n = c.length_before.ensures is_line_end (λ b r k. k) in
    omega (arith, n.1.1 ∙ line_behind _ n.0 n.1.0, first_line_within c.args.s.now)
