-- The table's rule, at the byte.
use Rattle.std.proofs.Common.{rules, ◌≡◌}
use Rattle.quoted.specs.Classes.{classes, class_at}
use Rattle.quoted.proofs.Classes.class_of.Goals as goal

pub returns : goal.returns
returns c =
    let e : c.args.self.now.letters ≡ classes = search rules in
    rw (c.from.ensures, e) (class_at _ (search rules))
