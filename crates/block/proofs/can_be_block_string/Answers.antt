-- What the rule asks of the value is what it asks of the lines from `from` on, with `unindented` for the lines before them. The first
-- of these is the first of all where `from` is 0.

use Rattle.std.proofs.Common.{sym, ◌∙◌, ◌+◌, arith, rules, ne_eqb}
use Rattle.block.specs.Scan.{remains_at_end, remains_at_cr, remains_at_blank, remains_at_line}
use Rattle.block.specs.Places.{before_end}
use Rattle.block.specs.Rule.{all_remains}
use Rattle.block.proofs.can_be_block_string.Goals as goal

pub loop-unindented-init : goal.loop-unindented-init
loop-unindented-init c = (search rules, all_remains _)

pub returns-then-end-value : goal.returns-then-end-value
returns-then-end-value c = sym (remains_at_end c.skip_whitespace-text.ensures c.find_either-end.ensures _ _ c.if-end-value.true) ∙ c.loop-unindented.invariant.1

pub returns-then-value-end-eq13 : goal.returns-then-value-end-eq13
returns-then-value-end-eq13 c =
    let end = c.find_either-end.ensures in
    sym (remains_at_cr c.skip_whitespace-text.ensures end _ _ (before_end end c.if-end-value.false) c.if-value-end-eq13.true) ∙ c.loop-unindented.invariant.1

pub returns-then-blank-from : goal.returns-then-blank-from
returns-then-blank-from c =
    let end = c.find_either-end.ensures in
    let h = before_end end c.if-end-value.false in
    sym (remains_at_blank c.skip_whitespace-text.ensures end _ _ h c.if-value-end-eq13.false c.if-blank-from.true) ∙ c.loop-unindented.invariant.1

pub loop-unindented-preserved : goal.loop-unindented-preserved
loop-unindented-preserved c =
    let end = c.find_either-end.ensures in
    let h = before_end end c.if-end-value.false in
    let z = ne_eqb (c.find_either-end.result + 1) 0 (omega arith) in
    let i = c.loop-unindented.invariant.1 in
    (search rules, rw z (sym (remains_at_line c.skip_whitespace-text.ensures end _ _ h c.if-value-end-eq13.false c.if-blank-from.false) ∙ i))
