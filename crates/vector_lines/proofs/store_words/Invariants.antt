-- What is left to store is the words from `at` on, at i; each part of them is a word.
use Rattle.std.proofs.Common.{◌≡◌, ◌-◌, true, length, drop}
use Rattle.std.proofs.lemmas.List.Edits.{sets}
use Rattle.vector_lines.specs.Words.{are_words, words_of}
use Rattle.vector_lines.proofs.store_words.Given as goal

abbrev pub invariant-loop-stored : goal.invariant-loop-stored
invariant-loop-stored l =
    (length l.stored-items ≡ length l.initial.stored-items)
    × (are_words (l.n - l.stored-index) (drop l.at l.s) ≡ true)
    × (sets l.stored-items l.stored-index (words_of (l.n - l.stored-index) (drop l.at l.s)) ≡ sets l.initial.stored-items 0 (words_of l.n l.s))
