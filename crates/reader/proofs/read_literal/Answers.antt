-- `reader::read_literal` meets its contract: how the text begins tells which reader is right, or that none is.
use Rattle.std.proofs.Common.{◌≡◌, ◌∙◌, length, get_or, ap, not, arith}
use Rattle.meaning.specs.Ascii.{quote}
use Rattle.reader.specs.Begins.{not_utf8, begins_with_three, is_empty_lem, begins_with_another, begins_with_quote}
use Rattle.reader.proofs.read_literal.Goals as goal

pub returns-then-not-is_utf8 : goal.returns-then-not-is_utf8
returns-then-not-is_utf8 c = not_utf8 _ _ _ c.is_utf8.ensures (ap not c.if-not-is_utf8.true)

pub returns-then-three_quotes : goal.returns-then-three_quotes
returns-then-three_quotes c = c.read_block.ensures ∙ begins_with_three _ _ _ c.is_utf8.ensures (ap not c.if-not-is_utf8.false) _ c.three_quotes.ensures c.if-three_quotes.true

pub returns-in-34 : goal.returns-in-34
returns-in-34 c =
    let quoted : get_or c.args.text.now 0 0 ≡ quote = omega arith in
    c.read_quoted.ensures
    ∙ begins_with_quote _ _ _ c.is_utf8.ensures (ap not c.if-not-is_utf8.false) _ c.three_quotes.ensures c.if-three_quotes.false c.in-34.len_at_least quoted

pub returns-in_default : goal.returns-in_default
returns-in_default c =
    let empty : length c.args.text.now ≡ 0 = omega (arith, c.in_default.len_below) in
    is_empty_lem _ _ _ c.is_utf8.ensures (ap not c.if-not-is_utf8.false) _ c.three_quotes.ensures c.if-three_quotes.false empty

pub returns-in_default-2 : goal.returns-in_default-2
returns-in_default-2 c =
    let another : get_or c.args.text.now 0 0 ≡ quote → ⊥ = λ e. omega arith in
    begins_with_another _ _ _ c.is_utf8.ensures (ap not c.if-not-is_utf8.false) _ c.three_quotes.ensures c.if-three_quotes.false c.in_default.len_at_least another
