-- The parts that are left, from `at` on, decide for all.
use Rattle.std.proofs.Common.{◌∙◌, sym, ap}
use Rattle.vector_lines.specs.Words.{is_word}
use Rattle.vector_lines.proofs.Commas.{words_bad, words_more, words_end}
use Rattle.vector_lines.proofs.are_words.Goals as goal

pub returns-then-not-is_word : goal.returns-then-not-is_word
returns-then-not-is_word c =
    let bad = ap is_word (sym c.part.ensures) ∙ sym c.is_word.ensures ∙ c.if-not-is_word.true in
    sym (words_bad c.args.s.now c.loop.at _ _ c.loop-test.true bad) ∙ c.loop.invariant

pub loop-preserved : goal.loop-preserved
loop-preserved c =
    let good = ap is_word (sym c.part.ensures) ∙ sym c.is_word.ensures ∙ c.if-not-is_word.false in
    words_more c.args.s.now c.loop.at _ _ _ c.loop-test.true good c.past-at.ensures ∙ c.loop.invariant

pub returns : goal.returns
returns c = sym (words_end _ _ _ c.loop-test.false) ∙ c.loop.invariant
