-- The digest of a text (docs/JOBS.md): the number that byte 01 and the bytes of the text make in base 256, the first byte the highest digit,
-- modulo the prime 2^56 - 5. The 01 in front has every byte count, a leading 00 too.
use Rattle.std.specs.Prelude.{◌≡◌, refl, List, [], ◌∷◌, ℕ, ◌+◌, ◌-◌, ◌*◌, ◌%◌, ◌^◌}

abbrev pub modulus : ℕ
modulus = 2 ^ 56 - 5

-- the digits that follow those of n
unfoldable pub number_from : ℕ → List ℕ → ℕ
number_from n [] = n
number_from n (b ∷ s) = number_from (256 * n + b) s

unfoldable pub digest : List ℕ → ℕ
unfolding number_from
digest s = number_from 1 s % modulus

-- of no text, of `abc`, and of `abcdefg`, the first length that the modulus bears on
pub known_digests
    : (digest [] ≡ 0x01)
    × (digest (0x61 ∷ 0x62 ∷ 0x63 ∷ []) ≡ 0x01616263)
    × (digest (0x61 ∷ 0x62 ∷ 0x63 ∷ 0x64 ∷ 0x65 ∷ 0x66 ∷ 0x67 ∷ []) ≡ 0x6162636465666C)
unfolding digest
known_digests = (refl, refl, refl)
