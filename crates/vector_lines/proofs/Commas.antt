-- Words between commas, a part at a time, and words stored from the front.
use Rattle.std.proofs.Common.{◌≡◌, ◌∙◌, refl, ap, ℕ, zero, suc, ◌+◌, ◌-◌, ◌≤◌, ◌<◌, true, false, cond, Option, Some, None, List, ◌++◌, length, drop, set, arith, add-one}
use Rattle.std.proofs.lemmas.List.Edits.{sets}
use Rattle.vector_lines.specs.Parts.{before, after, Past}
use Rattle.vector_lines.specs.Words.{comma, is_word, word_of, are_words, words_of}
use Rattle.vector_lines.proofs.Hex.{and_first, store_whole}

-- what is read of a part
abbrev pub read : List ℕ → Option ℕ
read t = cond (is_word t) (Some (word_of t)) None

pub word_there : (t : List ℕ) {o : Option ℕ} → is_word t ≡ true → o ≡ read t → o ≡ Some (word_of t)
word_there t p e = rw p at e

-- of the parts from the k-th on, the first is no word
pub words_bad : (s : List ℕ) (i k n : ℕ) → k < n → is_word (before comma (drop i s)) ≡ false → are_words (n - k) (drop i s) ≡ false
unfolding are_words
words_bad s i k n h b = let z : n - k ≡ suc (n - (k + 1)) = omega arith in rw (z, b)

-- it is one: the rest decides
pub words_more : (s : List ℕ) (i k n r : ℕ) → k < n → is_word (before comma (drop i s)) ≡ true → Past s i comma r
    → are_words (n - (k + 1)) (drop r s) ≡ are_words (n - k) (drop i s)
unfolding are_words
words_more s i k n r h b p = let z : n - k ≡ suc (n - (k + 1)) = omega arith in rw (z, p.rest, b)

pub words_end : (s : List ℕ) (k n : ℕ) → n ≤ k → are_words (n - k) s ≡ true
unfolding are_words
words_end s k n h = let z : n - k ≡ 0 = omega arith in rw z

-- of the words from the k-th on, the first
pub word_here : (s : List ℕ) (i k n : ℕ) → k < n → are_words (n - k) (drop i s) ≡ true → is_word (before comma (drop i s)) ≡ true
unfolding are_words
word_here s i k n h e = let z : n - k ≡ suc (n - (k + 1)) = omega arith in and_first _ _ (rw z at e)

-- words stored one by one from the front
pub store_word : (d s : List ℕ) (at i n r v : ℕ) → i < n → v ≡ word_of (before comma (drop at s)) → Past s at comma r
    → sets (set d i v) (i + 1) (words_of (n - (i + 1)) (drop r s)) ≡ sets d i (words_of (n - i) (drop at s))
unfolding words_of
store_word d s at i n r v h e p = let z : n - i ≡ suc (n - (i + 1)) = omega arith in rw (z, e, p.rest, add-one)

pub store_none : (d s : List ℕ) (i n : ℕ) → n ≤ i → sets d i (words_of (n - i) s) ≡ d
unfolding words_of
store_none d s i n h = let z : n - i ≡ 0 = omega arith in rw z

words_length : (n : ℕ) (s : List ℕ) → length (words_of n s) ≡ n
unfolding words_of
words_length zero s = refl
words_length (suc n) s = ap suc (words_length n (after comma s))

pub store_all : (d s : List ℕ) (n : ℕ) → n ≤ length d → sets d 0 (words_of n s) ≡ words_of n s ++ drop n d
store_all d s n h =
    store_whole d (words_of n s) (omega (arith, words_length n s)) ∙ rw (words_length n s)
