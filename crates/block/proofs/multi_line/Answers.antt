-- The tests are those of `multi_line`, the quick one first.
use Rattle.std.proofs.Common.{sym, refl, ◌≡◌, ◌∙◌, ◌||◌, ltb, length, lt-ltb, le-ltb}
use Rattle.meaning.specs.Ascii.{line_feed}
use Rattle.meaning.specs.Block.{has}
use Rattle.block.specs.Text.{multi_line_by_tests}
use Rattle.block.proofs.multi_line.Goals.{then-value-gt70, else-value-gt70}
use Rattle.block.proofs.multi_line.Goals as goal

pub returns-then-contains_newline : goal.returns-then-contains_newline
returns-then-contains_newline c =
    let v = c.args.value.now in
    let e : c.if-value-gt70.value ≡ (ltb 70 (length v) || has line_feed v) =
    elim c.if-value-gt70.branch [
      | then-value-gt70 w ↦ w.value-is ∙ rw (lt-ltb _ _ w.if-value-gt70.true) refl
      | else-value-gt70 w ↦ w.value-is ∙ rw (le-ltb _ _ w.if-value-gt70.false) w.contains_newline.ensures
    ] in
    let t = sym e ∙ c.if-contains_newline.true in
    c.if-contains_newline.true ∙ sym (multi_line_by_tests v ∙ rw t refl)

pub returns-else-contains_newline : goal.returns-else-contains_newline
returns-else-contains_newline c =
    let v = c.args.value.now in
    let e : c.if-value-gt70.value ≡ (ltb 70 (length v) || has line_feed v) =
    elim c.if-value-gt70.branch [
      | then-value-gt70 w ↦ w.value-is ∙ rw (lt-ltb _ _ w.if-value-gt70.true) refl
      | else-value-gt70 w ↦ w.value-is ∙ rw (le-ltb _ _ w.if-value-gt70.false) w.contains_newline.ensures
    ] in
    let t = sym e ∙ c.if-contains_newline.false in
    c.runs_into_quotes.ensures ∙ sym (multi_line_by_tests v ∙ rw t refl)
