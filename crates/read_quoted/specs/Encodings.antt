-- The bytes of a scalar value, by how many there are.
use Rattle.std.specs.Prelude.{◌≡◌, [], ◌∷◌, ℕ, ◌+◌, ◌/◌, ◌%◌, ◌≤◌, ◌<◌}
use Rattle.std.proofs.Common.{arith, lt-ltb, le-ltb}
use Rattle.meaning.specs.Utf8.{encoded}

pub in_one_byte : (n : ℕ) → n < 0x80 → encoded n ≡ n ∷ []
unfolding encoded
in_one_byte n h = rw (lt-ltb n 0x80 h)

pub in_two_bytes : (n : ℕ) → 0x80 ≤ n → n < 0x800 → encoded n ≡ (0xC0 + n / 64) ∷ (0x80 + n % 64) ∷ []
unfolding encoded
in_two_bytes n a h = rw (le-ltb n 0x80 a, lt-ltb n 0x800 h)

pub in_three_bytes : (n : ℕ) → 0x800 ≤ n → n < 0x10000
    → encoded n ≡ (0xE0 + n / 4096) ∷ (0x80 + n / 64 % 64) ∷ (0x80 + n % 64) ∷ []
unfolding encoded
in_three_bytes n a h = rw (le-ltb n 0x80 (omega arith), le-ltb n 0x800 a, lt-ltb n 0x10000 h)

pub in_four_bytes : (n : ℕ) → 0x10000 ≤ n
    → encoded n ≡ (0xF0 + n / 262144) ∷ (0x80 + n / 4096 % 64) ∷ (0x80 + n / 64 % 64) ∷ (0x80 + n % 64) ∷ []
unfolding encoded
in_four_bytes n a = rw (le-ltb n 0x80 (omega arith), le-ltb n 0x800 (omega arith), le-ltb n 0x10000 a)
