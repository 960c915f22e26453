-- A byte is stored where its place is within `out`; elsewhere nothing is, which is what `set` says past the end.
use Rattle.std.proofs.Common.{refl}
use Rattle.std.proofs.Math.Seq.{set_out}
use Rattle.pen.specs.Wrote.{ink}
use Rattle.pen.proofs.Pen.write_byte.Goals.{then-self, else-self}
use Rattle.pen.proofs.Pen.write_byte.Goals as goal

pub returns : goal.returns
unfolding ink
returns c =
    elim c.if-self.branch [
      | then-self w ↦ rw (c.saturating_add-self.ensures, w.self-is) record { ink = refl; same = refl }
      | else-self w ↦ rw (c.saturating_add-self.ensures, w.self-is) record { ink = rw (set_out _ _ c.args.b w.if-self.false) refl; same = refl }
    ]
