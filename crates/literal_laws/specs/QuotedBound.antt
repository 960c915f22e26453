-- The quoted form has at most 6n + 2 bytes: a byte is written with at most six, and a quote stands at each end.
use Rattle.std.specs.Prelude.{Bool, true, false, List, [], ◌∷◌, ℕ, ◌*◌, ◌/◌, ◌%◌, ◌≤◌, eqb, length, if◌then◌else◌}
use Rattle.std.proofs.Common.{arith, length-append}
use Rattle.meaning.specs.Ascii.{quote, backslash}
use Rattle.meaning.specs.Quoted.{letter_u, class, hex_digit, written_as, escaped, body, quoted}
use Rattle.meaning.specs.Demand.{quoted_bound}

-- of whatever class
written_in_six : (c b : ℕ) → length (written_as c b) ≤ 6
unfolding written_as
written_in_six c b = go (eqb c 0) (eqb c letter_u)
  where
    go : (z u : Bool) →
        length
        (if z then b ∷ []
        else if u then backslash ∷ letter_u ∷ 0x30 ∷ 0x30 ∷ hex_digit (b / 16) ∷ hex_digit (b % 16) ∷ []
        else backslash ∷ c ∷ [])
        ≤ 6
    go true u = omega arith
    go false true = omega arith
    go false false = omega arith

escaped_in_six : (b : ℕ) → length (escaped b) ≤ 6
unfolding escaped
escaped_in_six b = written_in_six (class b) b

body_bound : (v : List ℕ) → length (body v) ≤ 6 * length v
unfolding body
body_bound [] = omega arith
body_bound (b ∷ v) = omega (arith, length-append (escaped b) (body v), escaped_in_six b, body_bound v)

-- 6n + 2
pub quoted_bound_lem : (v : List ℕ) → length (quoted v) ≤ quoted_bound (length v)
unfolding quoted quoted_bound
quoted_bound_lem v = omega (arith, length-append (body v) (quote ∷ []), body_bound v)
