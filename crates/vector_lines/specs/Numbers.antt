-- Numbers in decimal: one digit or more, and nothing else. Numbers of 10^18 and more are refused.
use Rattle.std.specs.Prelude.{Option, Some, None, cond, ◌&&◌, List, [], ◌∷◌, ℕ, ◌+◌, ◌*◌, ◌^◌, ltb}
use Rattle.vector_lines.specs.Hex.{digit_of}

-- the digits that follow those of n
unfoldable pub number_from : ℕ → List ℕ → Option ℕ
number_from n [] = Some n
number_from n (b ∷ s) = cond (ltb (digit_of b) 10 && ltb n (10 ^ 17)) (number_from (10 * n + digit_of b) s) None

unfoldable pub number_of : List ℕ → Option ℕ
unfolding number_from
number_of [] = None
number_of (b ∷ s) = number_from 0 (b ∷ s)
