-- docs/TABLE-FILE.md, the node table file: the magic `DVTABLE1`, the number of words, the number of pool bytes, the words, the pool, and
-- nothing after it. A number and a word have four bytes, the lowest first.
use Rattle.std.specs.Prelude.{Bool, not, Result, Ok, Err, List, [], ◌∷◌, ◌++◌, ℕ, zero, suc, ◌+◌, ◌*◌, ◌/◌, ◌%◌, ◌^◌, eqb, ltb, length, take, drop, get_or, if◌then◌else◌}
use Rattle.meaning.specs.Ascii.{ascii}
use Rattle.meaning.specs.Text.{same}
use Rattle.table_file.specs.declared.FileRefusal.{FileRefusal}
use Rattle.table_file.specs.declared.FileRefusal.TheVariants.{NotATable, WrongLength, Room}
use Rattle.table_file.specs.declared.Head.{Head}
use Rattle.table_file.specs.declared.TableFile.{TableFile}

abbrev pub magic : List ℕ
magic = ascii "DVTABLE1"

-- a number of 32 bits as four bytes
unfoldable pub number_bytes : ℕ → List ℕ
number_bytes n = n % 256 ∷ n / 256 % 256 ∷ n / 256 / 256 % 256 ∷ n / 256 / 256 / 256 % 256 ∷ []

unfoldable pub words_bytes : List ℕ → List ℕ
words_bytes [] = []
words_bytes (w ∷ words) = number_bytes w ++ words_bytes words

-- the file of a table
unfoldable pub table_file : List ℕ → List ℕ → List ℕ
table_file words pool = magic ++ (number_bytes (length words) ++ (number_bytes (length pool) ++ (words_bytes words ++ pool)))

-- Reading, of any bytes: `ReadsBack.antt` has it that the file of a table is read as that table.

-- the number of the four bytes at a place
unfoldable pub number_at : List ℕ → ℕ → ℕ
number_at s i = get_or s i 0 + 2 ^ 8 * get_or s (i + 1) 0 + 2 ^ 16 * get_or s (i + 2) 0 + 2 ^ 24 * get_or s (i + 3) 0

-- n such numbers, one after the other from a place on
unfoldable pub numbers_at : ℕ → List ℕ → ℕ → List ℕ
numbers_at zero s i = []
numbers_at (suc n) s i = number_at s i ∷ numbers_at n s (i + 4)

unfoldable pub is_table_file : List ℕ → Bool
unfolding same
is_table_file s = same (take 8 s) magic

-- how many words there are, where the pool begins, and how long the file is, as its head tells
unfoldable pub words_told : List ℕ → ℕ
unfolding number_at
words_told s = number_at s 8

abbrev pub pool_place : ℕ → ℕ
pool_place words = 16 + 4 * words

unfoldable pub length_told : List ℕ → ℕ
unfolding words_told number_at
length_told s = pool_place (words_told s) + number_at s 12

unfoldable pub head_of : List ℕ → Result Head FileRefusal
unfolding is_table_file words_told length_told
head_of s =
    if not (is_table_file s) then Err NotATable
    else if ltb (length s) 16 then Err WrongLength
    else Ok (record { words = words_told s; length = length_told s })

abbrev pub table_told : ℕ → TableFile
table_told words = record { words = words; pool = record { 0 = pool_place words } }

-- the answer, and every word of the lent memory: a file that is refused, or has no room, changes none
unfoldable pub table_under : Result Head FileRefusal → List ℕ → List ℕ → Result TableFile FileRefusal × List ℕ
unfolding numbers_at
table_under (Err refusal) s d = (Err refusal, d)
table_under (Ok head) s d =
    if not (eqb (length s) head.length) then (Err WrongLength, d)
    else if ltb (length d) head.words then (Err (Room head.words), d)
    else (Ok (table_told head.words), numbers_at head.words s 16 ++ drop head.words d)

unfoldable pub table_of : List ℕ → List ℕ → Result TableFile FileRefusal × List ℕ
unfolding head_of table_under
table_of s d = table_under (head_of s) s d

-- A file's refusals have numbers past document 01's. Words that find no room are a table too large, 2, for who lends as many as 8,192 nodes have.
abbrev pub file_number : FileRefusal → ℕ
file_number NotATable = 20
file_number WrongLength = 21
file_number (Room words) = 2
