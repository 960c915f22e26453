-- What there is room for is stored, and past the end nothing; the place goes on by all of `bytes`.
use Rattle.std.specs.Prelude.{◌≡◌, List, [], ◌∷◌, ℕ, length}
use Rattle.std.proofs.Common.{eqb-true, sym, ◌∙◌, refl, arith}
use Rattle.pen.specs.Put.{put_past}
use Rattle.pen.specs.Wrote.{ink_put, wrote_as, wrote_none}
use Rattle.pen.proofs.Pen.write.Goals.{then-self+then-bytes-room, then-self+else-bytes-room, else-self}
use Rattle.pen.proofs.Pen.write.Goals as goal

empty : (t : List ℕ) → length t ≡ 0 → t ≡ []
empty [] h = refl
empty (b ∷ t) h = absurd (omega arith)

pub returns-then-is_empty : goal.returns-then-is_empty
returns-then-is_empty c = wrote_as wrote_none (sym (empty _ (eqb-true _ 0 (sym c.is_empty.ensures ∙ c.if-is_empty.true))))

pub returns : goal.returns
returns c =
    let p = c.args.self.now in
    let t = c.args.bytes.now in
    elim c.if-self.branch [
      | then-self+then-bytes-room w ↦
          rw (c.saturating_add-self.ensures, w.self-is)
          record { ink = rw w.store.ensures (ink_put t p.out.now p.at.0 (omega arith) (omega arith)); same = refl }
      | then-self+else-bytes-room w ↦
          rw (c.saturating_add-self.ensures, w.self-is)
          record { ink = rw w.store-else-bytes-room.ensures (ink_put t p.out.now p.at.0 (omega arith) (omega arith)); same = refl }
      | else-self w ↦
          let none = put_past t p.out.now p.at.0 (omega (arith, w.if-self.false)) in
          rw (c.saturating_add-self.ensures, w.self-is)
          record { ink = rw none at (ink_put t p.out.now p.at.0 (omega arith) (omega arith)); same = refl }
    ]
