-- Words in decimal, apart by commas; `-` alone stands for no words. Numbers of 2^32 and more are no words.
use Rattle.std.specs.Prelude.{Bool, true, false, Option, Some, None, cond, ◌&&◌, List, [], ◌∷◌, ◌++◌, ℕ, zero, suc, ◌^◌, leb, ltb, length, drop}
use Rattle.vector_lines.specs.Parts.{before, after, count_of}
use Rattle.vector_lines.specs.Hex.{is_none}
use Rattle.vector_lines.specs.Numbers.{number_of}

abbrev pub comma : ℕ
comma = 44

abbrev pub is_small : Option ℕ → Bool
is_small (Some n) = ltb n (2 ^ 32)
is_small None = false

abbrev pub value : Option ℕ → ℕ
value (Some n) = n
value None = 0

-- a text that is a word, and what word it is
abbrev pub is_word : List ℕ → Bool
is_word s = is_small (number_of s)

abbrev pub word_of : List ℕ → ℕ
word_of s = value (number_of s)

-- the first n parts are words, and what words they are
unfoldable pub are_words : ℕ → List ℕ → Bool
are_words zero s = true
are_words (suc n) s = is_word (before comma s) && are_words n (after comma s)

unfoldable pub words_of : ℕ → List ℕ → List ℕ
words_of zero s = []
words_of (suc n) s = word_of (before comma s) ∷ words_of n (after comma s)

-- how many parts there are
abbrev pub parts_of : List ℕ → ℕ
parts_of s = suc (count_of comma s)

-- the answer, and every word of the lent memory: what is bad, or has no room, changes none
unfoldable pub listed : List ℕ → List ℕ → Option ℕ × List ℕ
listed s d =
    cond (is_none s) (Some 0, d)
    (cond (leb (parts_of s) (length d) && are_words (parts_of s) s) (Some (parts_of s), words_of (parts_of s) s ++ drop (parts_of s) d) (None, d))
