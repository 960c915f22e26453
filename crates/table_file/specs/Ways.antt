-- The ways of reading a table file, as the code takes them.
use Rattle.std.specs.Prelude.{◌≡◌, true, false, Result, Ok, Err, List, ◌++◌, ℕ, ◌+◌, ◌*◌, ◌≤◌, ◌<◌, length, drop}
use Rattle.std.proofs.Common.{eq-eqb, lt-ltb, le-ltb}
use Rattle.std.proofs.lemmas.Bool.{ne_eqb}
use Rattle.table_file.specs.declared.FileRefusal.{FileRefusal}
use Rattle.table_file.specs.declared.FileRefusal.TheVariants.{NotATable, WrongLength, Room}
use Rattle.table_file.specs.declared.Head.{Head}
use Rattle.table_file.specs.File.{number_at, numbers_at, is_table_file, words_told, length_told, head_of, table_told, table_under, table_of}

module _ (s : List ℕ) where
  pub head_none : is_table_file s ≡ false → head_of s ≡ Err NotATable
  unfolding head_of
  head_none e = rw e

  pub head_short : is_table_file s ≡ true → length s < 16 → head_of s ≡ Err WrongLength
  unfolding head_of
  head_short e h = rw (e, lt-ltb (length s) 16 h)

  pub head_told : (w p : ℕ) → is_table_file s ≡ true → 16 ≤ length s → w ≡ number_at s 8 → p ≡ number_at s 12
      → head_of s ≡ Ok (record { words = w; length = 16 + 4 * w + p })
  unfolding head_of words_told length_told
  head_told w p e h ew ep = rw (e, le-ltb (length s) 16 h, ew, ep)

-- what follows from the head
module _ (s d : List ℕ) {h : Result Head FileRefusal} (e : h ≡ head_of s) where
  pub no_table : h ≡ Err NotATable → table_of s d ≡ (Err NotATable, d)
  unfolding table_of table_under
  no_table k = rw (← e, k)

  pub no_lengths : h ≡ Err WrongLength → table_of s d ≡ (Err WrongLength, d)
  unfolding table_of table_under
  no_lengths k = rw (← e, k)

  pub other_length : (n l : ℕ) → h ≡ Ok (record { words = n; length = l }) → (length s ≡ l → ⊥) → table_of s d ≡ (Err WrongLength, d)
  unfolding table_of table_under
  other_length n l k u = rw (← e, k, ne_eqb (length s) l u)

  pub no_room : (n l : ℕ) → h ≡ Ok (record { words = n; length = l }) → length s ≡ l → length d < n → table_of s d ≡ (Err (Room n), d)
  unfolding table_of table_under
  no_room n l k u r = rw (← e, k, eq-eqb (length s) l u, lt-ltb (length d) n r)

  pub a_table : (n l : ℕ) {t : List ℕ} → h ≡ Ok (record { words = n; length = l }) → length s ≡ l → n ≤ length d
      → t ≡ numbers_at n s 16 ++ drop n d → table_of s d ≡ (Ok (table_told n), t)
  unfolding table_of table_under
  a_table n l k u r q = rw (← e, k, eq-eqb (length s) l u, le-ltb (length d) n r, q)
