-- Text in definitions: the bytes of a quoted text, and the characters that the documents speak of by name.
use Rattle.std.specs.Prelude.{List, [], ◌∷◌, ℕ}
use Prim.Native.String.{String, [] as nil, ◌∷◌ as next}
use Prim.Native.Char.{code}

-- the bytes of a text of ASCII characters
abbrev pub ascii : String → List ℕ
ascii nil = []
ascii (next c s) = code c ∷ ascii s

abbrev pub tab : ℕ
tab = 0x09

abbrev pub line_feed : ℕ
line_feed = 0x0A

abbrev pub carriage_return : ℕ
carriage_return = 0x0D

abbrev pub space : ℕ
space = 0x20

abbrev pub quote : ℕ
quote = 0x22

abbrev pub backslash : ℕ
backslash = 0x5C

-- `"""`
abbrev pub triple_quote : List ℕ
triple_quote = quote ∷ quote ∷ quote ∷ []
