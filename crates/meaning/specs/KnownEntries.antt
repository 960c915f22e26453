-- What the entries answer and leave in the output, on the smallest inputs: which refusal goes first, the exact room, bytes past the text.
use Rattle.std.specs.Prelude.{◌≡◌, refl, true, false, [], ◌∷◌}
use Rattle.std.proofs.Math.Option.{none, some}
use Rattle.meaning.specs.Ascii.{ascii}
use Rattle.meaning.specs.Settings.{Settings, settings, default_settings}
use Rattle.meaning.specs.Reading.{quoted_form, block_form}
use Rattle.meaning.specs.Layout.{node_text}
use Rattle.meaning.specs.Answers.{answer}
use Rattle.meaning.specs.Entries.{printed_literal, printed_literal_by_numbers, read_literal, checked_table, checked_document, checked_document_by_numbers, printed_document}
use Rattle.meaning.specs.Known.{string, query_of_a}

abbrev too_deep : Settings
too_deep = settings true [] 129

abbrev level65 : Settings
level65 = settings true [] 65

literals_printed :
    (printed_literal too_deep string (0xFF ∷ []) (ascii "same") ≡ (answer 1 0 0, ascii "same"))
    × (printed_literal level65 string [] (ascii "same") ≡ (answer 0 0 2, ascii "\"\"me"))
    × (printed_literal default_settings string (0xFF ∷ []) (ascii "same") ≡ (answer 7 0 0, ascii "same"))
    × (printed_literal default_settings string (ascii "abc") (ascii "same") ≡ (answer 8 0 5, ascii "same"))
    × (printed_literal default_settings string (ascii "ab") (ascii "same") ≡ (answer 0 0 4, ascii "\"ab\""))
    × (printed_literal default_settings string (ascii "a") (ascii "same") ≡ (answer 0 0 3, ascii "\"a\"e"))
    × (printed_literal_by_numbers 2 [] 0 0 (ascii "a") (ascii "same") ≡ (answer 1 0 0, ascii "same"))
    × (printed_literal_by_numbers 1 [] 0 2 (ascii "a") (ascii "same") ≡ (answer 1 0 0, ascii "same"))
    × (printed_literal_by_numbers 1 [] 0 0 (ascii "a") (ascii "same") ≡ (answer 0 0 3, ascii "\"a\"e"))
unfolding printed_literal printed_literal_by_numbers
literals_printed = (refl, refl, refl, refl, refl, refl, refl, refl, refl)

literals_read :
    (read_literal (ascii "\"abc") (ascii "same") ≡ (answer 9 0 0, none, ascii "same"))
    × (read_literal (ascii "\"abcde\"") (ascii "same") ≡ (answer 8 0 5, none, ascii "same"))
    × (read_literal (ascii "\"abc\"") (ascii "same") ≡ (answer 0 0 3, some quoted_form, ascii "abce"))
    × (read_literal (ascii "\"\"\"ab\"\"\"") (ascii "same") ≡ (answer 0 0 2, some block_form, ascii "abme"))
unfolding read_literal
literals_read = (refl, refl, refl, refl)

tables_checked :
    (checked_table query_of_a (ascii "a") ≡ answer 0 0 0)
    × (checked_table query_of_a (ascii "-") ≡ answer 7 2 0)
    × (checked_table [] [] ≡ answer 2 0 0)
    × (checked_document level65 [] [] ≡ answer 1 0 0)
    × (checked_document default_settings query_of_a (ascii "-") ≡ answer 7 2 0)
    × (checked_document_by_numbers 2 [] 0 query_of_a (ascii "a") ≡ answer 1 0 0)
    × (checked_document_by_numbers 0 [] 64 query_of_a (ascii "a") ≡ answer 0 0 0)
unfolding checked_table checked_document checked_document_by_numbers
tables_checked = (refl, refl, refl, refl, refl, refl, refl)

documents_printed :
    (printed_document level65 [] [] (ascii "same") ≡ (answer 1 0 0, ascii "same"))
    × (printed_document default_settings query_of_a (ascii "-") (ascii "same") ≡ (answer 7 2 0, ascii "same"))
    × (printed_document default_settings query_of_a (ascii "a") (ascii "same") ≡ (answer 8 0 8, ascii "same"))
    × (printed_document (settings false [] 64) query_of_a (ascii "a") (ascii "the same") ≡ (answer 0 0 5, ascii "{ a }ame"))
unfolding printed_document node_text
documents_printed = (refl, refl, refl, refl)
