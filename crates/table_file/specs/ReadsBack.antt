-- The file of a table is read as that table.
use Rattle.std.specs.Prelude.{◌≡◌, true, Ok, List, [], ◌∷◌, ◌++◌, ℕ, ◌+◌, ◌*◌, ◌/◌, ◌%◌, ◌^◌, ◌≤◌, ◌<◌, length, drop, get_or}
use Rattle.std.proofs.Common.{refl, sym, ap, ◌∙◌, append_assoc, arith, length-append, get_or-drop, drop-drop, drop_at}
use Rattle.meaning.specs.Text.{same}
use Rattle.table_file.specs.File.{number_bytes, words_bytes, table_file, number_at, numbers_at, is_table_file, head_of, table_of}
use Rattle.table_file.specs.Ways.{head_told, a_table}

-- words of 32 bits
unfoldable pub Words : List ℕ → Type 0
Words [] = Unit {0}
Words (w ∷ words) = (w < 2 ^ 32) × Words words

digits : (n : ℕ) → n < 2 ^ 32 → n % 256 + 2 ^ 8 * (n / 256 % 256) + 2 ^ 16 * (n / 256 / 256 % 256) + 2 ^ 24 * (n / 256 / 256 / 256 % 256) ≡ n
digits n h = omega arith

-- the number at a place where its four bytes stand
number_there : (s rest : List ℕ) (i n : ℕ) → n < 2 ^ 32 → drop i s ≡ number_bytes n ++ rest → number_at s i ≡ n
unfolding number_at number_bytes
number_there s rest i n h e =
    let at : (k : ℕ) → get_or s (i + k) 0 ≡ get_or (number_bytes n ++ rest) k 0 = λ k. sym (get_or-drop i s k 0) ∙ ap (λ (l : List ℕ). get_or l k 0) e in
    let z : i + 0 ≡ i = omega arith in
    rw (← ap (λ (k : ℕ). get_or s k 0) z, at 0, at 1, at 2, at 3) (digits n h)

past_number : (s rest : List ℕ) (i n : ℕ) → drop i s ≡ number_bytes n ++ rest → drop (i + 4) s ≡ rest
unfolding number_bytes
past_number s rest i n e = sym (drop-drop 4 i s) ∙ ap (λ (l : List ℕ). drop 4 l) e

words_there : (words pool s : List ℕ) (i : ℕ) → Words words → drop i s ≡ words_bytes words ++ pool → numbers_at (length words) s i ≡ words
unfolding numbers_at words_bytes Words
words_there [] pool s i h e = refl
words_there (w ∷ words) pool s i h e =
    let f : drop i s ≡ number_bytes w ++ (words_bytes words ++ pool) = e ∙ append_assoc (number_bytes w) (words_bytes words) pool in
    rw (number_there s (words_bytes words ++ pool) i w h.0 f, words_there words pool s (i + 4) h.1 (past_number s (words_bytes words ++ pool) i w f))

words_length : (words : List ℕ) → length (words_bytes words) ≡ 4 * length words
unfolding words_bytes number_bytes
words_length [] = refl
words_length (w ∷ words) = omega (arith, words_length words)

module _ (words pool : List ℕ) where
  file_length : length (table_file words pool) ≡ 16 + 4 * length words + length pool
  unfolding table_file number_bytes
  file_length = omega (arith, length-append (words_bytes words) pool, words_length words)

  is_table_file_lem : is_table_file (table_file words pool) ≡ true
  unfolding is_table_file table_file same
  is_table_file_lem = refl

  past_head : drop 16 (table_file words pool) ≡ words_bytes words ++ pool
  unfolding table_file number_bytes
  past_head = refl

  -- the pool is what stands from its place on
  pub pool_there : drop (16 + 4 * length words) (table_file words pool) ≡ pool
  pool_there =
      sym (drop-drop (4 * length words) 16 (table_file words pool))
      ∙ rw past_head (drop_at (words_bytes words) pool (4 * length words) (words_length words))

  module _ (few : length words < 2 ^ 32) (short : length pool < 2 ^ 32) where
    words_told_lem : length words ≡ number_at (table_file words pool) 8
    unfolding table_file number_bytes
    words_told_lem = sym (number_there (table_file words pool) (number_bytes (length pool) ++ (words_bytes words ++ pool)) 8 (length words) few refl)

    pool_told : length pool ≡ number_at (table_file words pool) 12
    unfolding table_file number_bytes
    pool_told = sym (number_there (table_file words pool) (words_bytes words ++ pool) 12 (length pool) short refl)

    told : head_of (table_file words pool) ≡ Ok (record { words = length words; length = 16 + 4 * length words + length pool })
    told = head_told (table_file words pool) (length words) (length pool) is_table_file_lem (omega (arith, file_length)) words_told_lem pool_told

    pub file_reads_back : (d : List ℕ) → Words words → length words ≤ length d
        → table_of (table_file words pool) d ≡ (Ok (record { words = length words; pool = record { 0 = 16 + 4 * length words } }), words ++ drop (length words) d)
    file_reads_back d small room =
        a_table (table_file words pool) d refl (length words) (16 + 4 * length words + length pool) told file_length room
        (rw (words_there words pool (table_file words pool) 16 small past_head))
