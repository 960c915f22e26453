-- Document 01, "Known outputs": the rows marked *, of the definitions, in one statement.
use Rattle.std.specs.Prelude.{◌≡◌, refl, Bool, true, false, List, [], ◌∷◌, ℕ, length}
use Prim.Native.String.{String}
use Rattle.meaning.specs.Ascii.{ascii, space}
use Rattle.meaning.specs.Settings.{Settings, settings, default_settings}
use Rattle.meaning.specs.Literal.{literal}
use Rattle.meaning.specs.Table.{tree_of}
use Rattle.meaning.specs.Layout.{node_text, document_text}

abbrev pub level1 : Settings
level1 = settings true (space ∷ space ∷ []) 1

abbrev pub breaks_off : Settings
breaks_off = settings false (space ∷ space ∷ []) 0

abbrev pub description : Bool
description = true

abbrev pub string : Bool
string = false

-- "The query of a is the pool `a` and the words .."
abbrev pub query_of_a : List ℕ
query_of_a =
    0 ∷ 0 ∷ 0 ∷ 0 ∷ 3
    ∷ 1 ∷ 0 ∷ 0 ∷ 0 ∷ 3
    ∷ 29 ∷ 0 ∷ 0 ∷ 1 ∷ 3
    ∷ []

abbrev pub queries_of_aAnd_b : List ℕ
queries_of_aAnd_b =
    0 ∷ 0 ∷ 0 ∷ 0 ∷ 5
    ∷ 1 ∷ 0 ∷ 0 ∷ 0 ∷ 3
    ∷ 29 ∷ 0 ∷ 0 ∷ 1 ∷ 3
    ∷ 1 ∷ 0 ∷ 0 ∷ 0 ∷ 5
    ∷ 29 ∷ 0 ∷ 1 ∷ 1 ∷ 5
    ∷ []

-- the text, and its count of bytes
abbrev pub Is : List ℕ → String → ℕ → Type 0
Is text known bytes = (text ≡ ascii known) × (length text ≡ bytes)

pub known_outputs :
    Is (literal default_settings description []) "\"\"" 2
    × Is (literal default_settings description (ascii "abc")) "\"\"\"abc\"\"\"" 9
    × Is (literal default_settings string (ascii "abc")) "\"abc\"" 5
    × Is (literal level1 string (ascii "a\nb")) "\"\"\"\n  a\n  b\n  \"\"\"" 17
    × Is (literal breaks_off string (ascii "a\nb")) "\"a\\nb\"" 6
    × Is (literal level1 string (ascii "a\n\nb")) "\"\"\"\n  a\n\n  b\n  \"\"\"" 18
    × Is (literal default_settings description (ascii "  abc")) "\"  abc\"" 7
    × Is (literal default_settings string (0x01 ∷ [])) "\"\\u0001\"" 8
    × Is (literal default_settings description (ascii "say \"hi\"")) "\"\"\"\nsay \"hi\"\n\"\"\"" 16
    × Is (literal default_settings description (ascii "\"\"\"x")) "\"\"\"\\\"\"\"x\"\"\"" 11
    × Is (document_text default_settings (tree_of query_of_a (ascii "a"))) "{\n  a\n}\n" 8
    × Is (document_text breaks_off (tree_of queries_of_aAnd_b (ascii "ab"))) "{ a } query { b }" 17
unfolding literal document_text tree_of node_text
known_outputs = (
  (refl, refl),
  (refl, refl),
  (refl, refl),
  (refl, refl),
  (refl, refl),
  (refl, refl),
  (refl, refl),
  (refl, refl),
  (refl, refl),
  (refl, refl),
  (refl, refl),
  (refl, refl),
)
