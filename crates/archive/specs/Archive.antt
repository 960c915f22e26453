-- docs/JOBS.md: the archive text of a table file is its table's document under the default settings. The file's refusals, 20 and 21, go before
-- document 01's.
use Rattle.std.specs.Prelude.{Result, Ok, Err, List, ℕ, ltb, length, take, drop, if◌then◌else◌}
use Rattle.meaning.specs.declared.Refusal.TheVariants.{Size}
use Rattle.meaning.specs.Settings.{default_settings}
use Rattle.meaning.specs.Answers.{Answer, answer, refusal_answer}
use Rattle.meaning.specs.Entries.{Outcome, refusing, printed_document}
use Rattle.table_file.specs.declared.FileRefusal.{FileRefusal}
use Rattle.table_file.specs.declared.FileRefusal.TheVariants.{NotATable, WrongLength, Room}
use Rattle.table_file.specs.declared.Head.{Head}
use Rattle.table_file.specs.declared.TableFile.{TableFile}
use Rattle.table_file.specs.File.{head_of, table_of, file_number}
use Rattle.archive.specs.declared.Refused.{Refused}
use Rattle.archive.specs.declared.Refused.TheVariants.{NotATable as No_table, WrongLength as Wrong_length, Document}

-- a table that is too large for the lent words is one that document 01 refuses for its size
abbrev pub of_file : FileRefusal → Refused
of_file NotATable = No_table
of_file WrongLength = Wrong_length
of_file (Room words) = Document Size

abbrev pub refused_answer : Refused → Answer
refused_answer No_table = answer 20 0 0
refused_answer Wrong_length = answer 21 0 0
refused_answer (Document r) = refusal_answer r

-- number 0 is success, as document 01's answers have it
abbrev pub archived_answer : Result ℕ Refused → Answer
archived_answer (Ok length) = answer 0 0 length
archived_answer (Err r) = refused_answer r

-- no longer file has a table that is accepted: 8,192 nodes of five words, and a pool of 65,536 bytes
abbrev pub longest_file : ℕ
longest_file = 229392

-- of a longer file no more is looked at than its head: where it tells of so much, its table is too large
abbrev pub too_long_number : Result Head FileRefusal → ℕ
too_long_number (Err refusal) = file_number refusal
too_long_number (Ok head) = if ltb longest_file head.length then 2 else 21

-- where 40,960 words are lent, as both jobs lend them, those that find no room are more than 8,192 nodes have
unfoldable pub archived_table : Result TableFile FileRefusal → List ℕ → List ℕ → List ℕ → Outcome
unfolding printed_document
archived_table (Ok table) file words out = printed_document default_settings (take table.words words) (drop table.pool.0 file) out
archived_table (Err refusal) file words out = refusing (file_number refusal) 0 out

-- the answer and every byte of the output, and every lent word
unfoldable pub archived : List ℕ → List ℕ → List ℕ → Outcome × List ℕ
unfolding head_of table_of archived_table
archived file words out =
    if ltb longest_file (length file) then (refusing (too_long_number (head_of file)) 0 out, words)
    else (archived_table (table_of file words).0 file (table_of file words).1 out, (table_of file words).1)
