-- `Children::pass` meets its contract.
use Rattle.std.proofs.Common.{refl}
use Rattle.layout.proofs.Children.pass.Goals as goal

pub returns : goal.returns
returns c = record { next = c.end.ensures.is; end = refl }
