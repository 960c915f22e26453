-- `read_block::text_start` finds the first line that is not blank: before its place there are only blank lines.
use Rattle.std.proofs.Common.{◌≡◌, ◌+◌, ℕ, List, length, take, drop, ◌-◌, arith, sym, ◌∙◌}
use Rattle.std.proofs.lemmas.List.{take_rest}
use Rattle.meaning.specs.Block.{indent}
use Rattle.read_block_laws.specs.TrimmedFront.{blank_line_before, text_line_starts, no_line_starts}
use Rattle.read_block.proofs.text_start.Goals as goal

behind_blanks : (s : List ℕ) (i n : ℕ) → n ≡ indent (take (length s - i) (drop i s)) → i + n ≡ i + indent (drop i s)
behind_blanks s i n e = rw (e, take_rest)

pub loop-b-preserved : goal.loop-b-preserved
loop-b-preserved c =
    let b = c.in-Some.ensures.lookup.3 in
    blank_line_before _ _ _ c.loop-b.invariant (behind_blanks _ _ _ c.indent.ensures.value) b.0
    (rw (← b.1 0) (sym c.is_line_end.ensures ∙ c.if-is_line_end.true))

pub returns-in-Some-2 : goal.returns-in-Some-2
returns-in-Some-2 c =
    let b = c.in-Some.ensures.lookup.3 in
    text_line_starts _ _ _ c.loop-b.invariant (behind_blanks _ _ _ c.indent.ensures.value) b.0
    (rw (← b.1 0) (sym c.is_line_end.ensures ∙ c.if-is_line_end.false))

pub returns-in-None : goal.returns-in-None
returns-in-None c =
    no_line_starts _ _ _ c.loop-b.invariant (behind_blanks _ _ _ c.indent.ensures.value) (omega (arith, c.in-None.ensures.lookup.3, c.indent.ensures.within))
