-- All 256 classes are computed, and are those of the table.
use Rattle.std.specs.Prelude.{refl}
use Rattle.quoted.specs.Classes.{classes}
use Rattle.quoted.proofs.Classes.new.Goals as goal

pub invariant_of-result : goal.invariant_of-result
unfolding classes
invariant_of-result c = record { all = refl }
