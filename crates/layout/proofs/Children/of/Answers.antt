-- `Children::of` meets its contract.
use Rattle.std.proofs.Common.{refl}
use Rattle.layout.proofs.Children.of.Goals as goal

pub returns : goal.returns
returns c = record { next = refl; end = c.end.ensures.is }
