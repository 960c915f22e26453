-- Bytes in hex, two lower case digits a byte; `-` alone stands for no bytes.
use Rattle.std.specs.Prelude.{Bool, false, Option, Some, None, cond, ◌&&◌, List, [], ◌∷◌, ◌++◌, ℕ, ◌+◌, ◌-◌, ◌*◌, ◌%◌, eqb, leb, ltb, length, drop}
use Rattle.std.specs.List.{list_all}

-- what a digit stands for: `0` to `9`, then `a` to `f`; 16 for any other byte
unfoldable pub digit_of : ℕ → ℕ
digit_of b = cond (leb 48 b && leb b 57) (b - 48) (cond (leb 97 b && leb b 102) (b - 87) 16)

abbrev pub is_hex : ℕ → Bool
is_hex b = ltb (digit_of b) 16

abbrev pub all_hex : List ℕ → Bool
all_hex s = list_all is_hex s

-- digits and nothing else, two by two, one pair or more
unfoldable pub paired : List ℕ → Bool
paired s = ltb 0 (length s) && (eqb (length s % 2) 0 && all_hex s)

-- the byte that each pair stands for
unfoldable pub pairs : List ℕ → List ℕ
pairs [] = []
pairs (a ∷ []) = []
pairs (a ∷ b ∷ s) = (16 * digit_of a + digit_of b) ∷ pairs s

unfoldable pub is_none : List ℕ → Bool
is_none [] = false
is_none (b ∷ []) = eqb b 45
is_none (a ∷ b ∷ s) = false

-- these bytes from the front on, where there is room
unfoldable pub stored : List ℕ → List ℕ → Option ℕ × List ℕ
stored t d = cond (leb (length t) (length d)) (Some (length t), t ++ drop (length t) d) (None, d)

-- the answer, and every byte of the lent memory: what is bad changes none
unfoldable pub decoded : List ℕ → List ℕ → Option ℕ × List ℕ
decoded s d = cond (is_none s) (Some 0, d) (cond (paired s) (stored (pairs s) d) (None, d))
