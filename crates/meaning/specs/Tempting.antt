-- Document 01, the known outputs without a mark, "Tempting and wrong", and what else a wrong definition would change.
use Rattle.std.specs.Prelude.{◌≡◌, refl, true, false, List, [], ◌∷◌, ◌++◌, ℕ, length}
use Rattle.meaning.specs.Ascii.{ascii, tab, space}
use Rattle.meaning.specs.Settings.{settings, default_settings, document_levels, literal_levels, settings_fault, switch_fault, times}
use Rattle.meaning.specs.Literal.{literal}
use Rattle.meaning.specs.Table.{tree_of}
use Rattle.meaning.specs.Layout.{node_text, document_text}
use Rattle.meaning.specs.Known.{Is, level1, breaks_off, description, string, query_of_a}

-- so many letters `a`
abbrev letters : ℕ → List ℕ
letters n = times n (ascii "a")

-- so many times U+00E9, two bytes each
abbrev accents : ℕ → List ℕ
accents n = times n (0xC3 ∷ 0xA9 ∷ [])

abbrev input_i : List ℕ
input_i =
    0 ∷ 0 ∷ 0 ∷ 0 ∷ 8
    ∷ 10 ∷ 0 ∷ 0 ∷ 1 ∷ 8
    ∷ 22 ∷ 0 ∷ 1 ∷ 1 ∷ 8
    ∷ 34 ∷ 0 ∷ 0 ∷ 0 ∷ 5
    ∷ 33 ∷ 0 ∷ 2 ∷ 3 ∷ 5
    ∷ 42 ∷ 0 ∷ 0 ∷ 0 ∷ 8
    ∷ 41 ∷ 0 ∷ 5 ∷ 1 ∷ 7
    ∷ 41 ∷ 0 ∷ 6 ∷ 1 ∷ 8
    ∷ []

unmarked_outputs :
    Is (literal default_settings description (ascii "a\r")) "\"a\\r\"" 5
    × (length (literal default_settings description (letters 70)) ≡ 76)
    × (length (literal default_settings description (letters 71)) ≡ 79)
    × Is (document_text level1 (tree_of query_of_a (ascii "a"))) "{\n    a\n  }\n" 12
    × Is (document_text default_settings (tree_of input_i (ascii "IaInt12"))) "input I {\n  a: [Int] = [\n    1,\n    2,\n  ]\n}\n" 45
unfolding literal times document_text tree_of node_text
unmarked_outputs = ((refl, refl), refl, refl, (refl, refl), (refl, refl))

bytes_are_counted_and_not_characters :
    (length (literal default_settings description (accents 35)) ≡ 76) × (length (literal default_settings description (accents 36)) ≡ 80)
unfolding literal times
bytes_are_counted_and_not_characters = (refl, refl)

the_first_line_is_in_the_indent_rule :
    Is (literal default_settings string (ascii "a\n  b")) "\"\"\"\na\n  b\n\"\"\"" 13
    × Is (literal default_settings string (ascii "  a\nb")) "\"\"\"\n  a\nb\n\"\"\"" 13
    × Is (literal default_settings string (ascii " a\n b")) "\" a\\n b\"" 8
unfolding literal
the_first_line_is_in_the_indent_rule = ((refl, refl), (refl, refl), (refl, refl))

blank_ends_are_quoted_and_blank_lines_keep_their_blanks :
    Is (literal default_settings description (ascii "\na")) "\"\\na\"" 5
    × Is (literal default_settings description (ascii "a\n ")) "\"a\\n \"" 6
    × Is (literal level1 description (ascii "a\n \nb")) "\"\"\"\n  a\n   \n  b\n  \"\"\"" 21
    × Is (literal default_settings description (ascii "a ")) "\"\"\"a \"\"\"" 8
unfolding literal
blank_ends_are_quoted_and_blank_lines_keep_their_blanks = ((refl, refl), (refl, refl), (refl, refl), (refl, refl))

every_escape_and_no_other :
    (literal breaks_off description (0x00 ∷ 0x08 ∷ tab ∷ 0x0A ∷ 0x0C ∷ 0x0D ∷ 0x1F ∷ 0x20 ∷ 0x22 ∷ 0x5C ∷ 0x7F ∷ 0xC3 ∷ 0xA9 ∷ [])
    ≡ ascii "\"\\u0000\\b" ++ tab ∷ ascii "\\n\\f\\r\\u001F \\\"\\\\" ++ 0x7F ∷ 0xC3 ∷ 0xA9 ∷ ascii "\"")
    × (literal default_settings description (tab ∷ []) ≡ ascii "\"" ++ tab ∷ ascii "\"")
    × (literal default_settings description (ascii "a" ++ 0x01 ∷ []) ≡ ascii "\"\"\"a" ++ 0x01 ∷ ascii "\"\"\"")
unfolding literal
every_escape_and_no_other = (refl, refl, refl)

quotes_and_backslashes_in_blocks :
    Is (literal default_settings description (ascii "a\"\"\"\"b")) "\"\"\"a\\\"\"\"\"b\"\"\"" 13
    × Is (literal default_settings description (ascii "\"\"\"\"\"\"x")) "\"\"\"\\\"\"\"\\\"\"\"x\"\"\"" 15
    × Is (literal default_settings description (ascii "a\\")) "\"\"\"\na\\\n\"\"\"" 10
    × Is (literal default_settings description (ascii "\\\"\"\"a")) "\"\"\"\\\\\"\"\"a\"\"\"" 12
unfolding literal
quotes_and_backslashes_in_blocks = ((refl, refl), (refl, refl), (refl, refl), (refl, refl))

settings_at_their_limits :
    (settings_fault literal_levels (settings true (times 16 (ascii " ")) 128) ≡ false)
    × (settings_fault literal_levels (settings true (times 17 (ascii " ")) 0) ≡ true)
    × (settings_fault literal_levels (settings true [] 129) ≡ true)
    × (settings_fault document_levels (settings false [] 64) ≡ false)
    × (settings_fault document_levels (settings false [] 65) ≡ true)
    × (settings_fault document_levels (settings true (tab ∷ space ∷ []) 0) ≡ false)
    × (settings_fault document_levels (settings true (ascii " x") 0) ≡ true)
    × (switch_fault 0 ≡ false)
    × (switch_fault 1 ≡ false)
    × (switch_fault 2 ≡ true)
unfolding settings_fault switch_fault times
settings_at_their_limits = (refl, refl, refl, refl, refl, refl, refl, refl, refl, refl)
