-- The bits say that every byte is a name's.
use Rattle.std.proofs.Common.{◌≡◌, ◌∙◌, false, get_or, arith}
use Rattle.std.proofs.lemmas.Bool.{ne_eqb}
use Rattle.std.proofs.lemmas.Grind.{common_steps}
use Rattle.base.specs.Bools.{clash}
use Rattle.meaning.specs.Text.{is_digit}
use Rattle.texts.proofs.Plain.{seen_name}
use Rattle.texts.proofs.window.Window.is_name.Goals as goal
use Rattle.texts.proofs.window.Window.is_name.Goals.{then-bits-eq0+in-1-to-16, then-bits-eq0+in_default, then-bits-eq0+in_default-2, else-bits-eq0}

pub returns-then-matches-clause-name : goal.returns-then-matches-clause-name
unfolding is_digit
returns-then-matches-clause-name c e =
    let no_digit : is_digit (get_or c.args.self.now.bytes.now 0 0) ≡ false = grind (arith, common_steps) in
    elim c.if-bits-eq0.branch [
      | then-bits-eq0+in-1-to-16 w ↦
          seen_name c.args.self.now.bytes.now c.args.self.now.length c.bits.result c.args.self.now.whole (omega arith) (omega arith) no_digit c.bits.ensures (omega arith)
      | then-bits-eq0+in_default w ↦ clash c.if-matches.true w.value-is
      | then-bits-eq0+in_default-2 w ↦ clash c.if-matches.true w.value-is
      | else-bits-eq0 w ↦ clash c.if-matches.true (w.value-is ∙ ne_eqb _ 0 w.if-bits-eq0.false)
    ]
