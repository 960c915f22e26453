-- What is left to store is the words from `at` on, at i; each part of them is a word.
use Rattle.std.proofs.Common.{◌≡◌, ◌∙◌, List, ℕ, [], ◌++◌, ◌<◌, take, drop, sym, ap, arith, rules, length-take-le, drop_of_length-le, append-nil}
use Rattle.vector_lines.specs.Words.{is_word, word_of}
use Rattle.vector_lines.proofs.Commas.{word_there, word_here, words_more, store_word, store_none, store_all}
use Rattle.vector_lines.proofs.store_words.Goals as goal

pub unwrap-requires : goal.unwrap-requires
unwrap-requires c =
    let n = length-take-le c.args.n c.args.out.now c.requires.1 in
    let here = word_here c.args.s.now c.loop-stored.at _ _ (omega (arith, n, c.loop-stored-test.true)) c.loop-stored.invariant.1 in
    rw (word_there _ (ap is_word c.part.ensures ∙ here) c.word.ensures) (search rules)

pub loop-stored-preserved : goal.loop-stored-preserved
loop-stored-preserved c =
    let l = c.loop-stored in
    let n = length-take-le c.args.n c.args.out.now c.requires.1 in
    let h : l.stored-index < c.args.n = omega (arith, n, c.loop-stored-test.true) in
    let here = word_here c.args.s.now l.at _ _ h l.invariant.1 in
    let read = word_there _ (ap is_word c.part.ensures ∙ here) c.word.ensures in
    let value : c.unwrap.result ≡ word_of c.part.result.now = cc in (
      search rules,
      words_more c.args.s.now l.at _ _ _ h here c.past-at.ensures ∙ l.invariant.1,
      store_word _ c.args.s.now l.at _ _ _ _ h (value ∙ ap word_of c.part.ensures) c.past-at.ensures ∙ l.invariant.2,
    )

pub returns : goal.returns
returns c =
    let front = take c.args.n c.args.out.now in
    let n = length-take-le c.args.n c.args.out.now c.requires.1 in
    let none : drop c.args.n front ≡ [] = drop_of_length-le front (omega (arith, n)) in
    let whole = rw none at (store_all front c.args.s.now c.args.n (omega (arith, n))) ∙ append-nil _ in
    ap (λ (d : List ℕ). d ++ drop c.args.n c.args.out.now)
    (sym (store_none _ _ c.loop-stored.stored-index _ (omega (arith, n, c.loop-stored-test.false))) ∙ c.loop-stored.invariant.2 ∙ whole)
