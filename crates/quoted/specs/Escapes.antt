-- What is written for a byte, by its class c.
use Rattle.std.specs.Prelude.{◌≡◌, [], ◌∷◌, ℕ, ◌/◌, ◌%◌}
use Rattle.std.proofs.Common.{ne_eqb}
use Rattle.meaning.specs.Ascii.{backslash}
use Rattle.meaning.specs.Quoted.{letter_u, class, hex_digit, written_as, escaped}

pub stands_for_itself : (b : ℕ) → class b ≡ 0 → escaped b ≡ b ∷ []
unfolding escaped written_as
stands_for_itself b z = rw z

pub escaped_by_letter : (b c : ℕ) → c ≡ class b → (class b ≡ 0 → ⊥) → (c ≡ letter_u → ⊥) → backslash ∷ c ∷ [] ≡ escaped b
unfolding escaped written_as
escaped_by_letter b c e z u = rw (ne_eqb (class b) 0 z, ← e, ne_eqb c letter_u u)

pub escaped_by_digits : (b c x y : ℕ) → c ≡ class b → c ≡ letter_u → x ≡ hex_digit (b / 16) → y ≡ hex_digit (b % 16)
    → backslash ∷ letter_u ∷ 0x30 ∷ 0x30 ∷ x ∷ y ∷ [] ≡ escaped b
unfolding escaped written_as
escaped_by_digits b c x y e u p q = rw (← e, u, p, q)
