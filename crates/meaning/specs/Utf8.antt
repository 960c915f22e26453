-- Document 01, "String literals": UTF-8 (RFC 3629). A lead byte's leading one bits give the length; overlong forms, surrogates and
-- values past 10FFFF are bad.
use Rattle.std.specs.Prelude.{Bool, true, false, not, ◌&&◌, ◌||◌, List, [], ◌∷◌, ℕ, zero, suc, ◌+◌, ◌-◌, ◌*◌, ◌/◌, ◌%◌, ◌^◌, eqb, ltb, leb, if◌then◌else◌}

-- a value up to 10FFFF that is no surrogate
unfoldable pub scalar : ℕ → Bool
scalar n = leb n 0x10FFFF && (ltb n 0xD800 || ltb 0xDFFF n)

-- how many one bits a byte begins with; 5 stands for every number past 4
unfoldable pub leading_ones : ℕ → ℕ
leading_ones b =
    if ltb b 0x80 then 0
    else if ltb b 0xC0 then 1
    else if ltb b 0xE0 then 2
    else if ltb b 0xF0 then 3
    else if ltb b 0xF8 then 4
    else 5

-- a lead byte, and a byte that goes on with a sequence
unfoldable pub leads : ℕ → Bool
unfolding leading_ones
leads b = not (eqb (leading_ones b) 1) && leb (leading_ones b) 4

unfoldable pub goes_on : ℕ → Bool
unfolding leading_ones
goes_on b = eqb (leading_ones b) 1

-- of a lead byte: how many bytes go on after it, and its own bits of the value
unfoldable pub follow : ℕ → ℕ
unfolding leading_ones
follow b = leading_ones b - 1

unfoldable pub own_bits : ℕ → ℕ
unfolding leading_ones
own_bits b = b % 2 ^ (7 - leading_ones b)

-- the least value that is not overlong where so many bytes go on
unfoldable pub least : ℕ → ℕ
least k = if eqb k 0 then 0 else if eqb k 1 then 0x80 else if eqb k 2 then 0x800 else 0x10000

-- the value of a sequence that is whole, or not yet whole: k bytes of it are still to come
unfoldable pub fine : ℕ → ℕ → ℕ → Bool
unfolding scalar
fine zero low n = leb low n && scalar n
fine (suc k) low n = true

-- whole sequences, after k more bytes of one that has the value n so far and is overlong below `low`
unfoldable pub utf8_after : ℕ → ℕ → ℕ → List ℕ → Bool
unfolding leads goes_on follow own_bits least fine
utf8_after zero low n [] = true
utf8_after (suc k) low n [] = false
utf8_after zero low n (b ∷ s) = leads b && utf8_after (follow b) (least (follow b)) (own_bits b) s
utf8_after (suc k) low n (b ∷ s) =
    goes_on b && (fine k low (n * 64 + b % 64) && utf8_after k low (n * 64 + b % 64) s)

unfoldable pub utf8 : List ℕ → Bool
unfolding utf8_after
utf8 s = utf8_after 0 0 0 s

-- the bytes of a scalar value
unfoldable pub encoded : ℕ → List ℕ
encoded n =
    if ltb n 0x80 then n ∷ []
    else if ltb n 0x800 then (0xC0 + n / 64) ∷ (0x80 + n % 64) ∷ []
    else if ltb n 0x10000 then (0xE0 + n / 4096) ∷ (0x80 + n / 64 % 64) ∷ (0x80 + n % 64) ∷ []
    else (0xF0 + n / 262144) ∷ (0x80 + n / 4096 % 64) ∷ (0x80 + n / 64 % 64) ∷ (0x80 + n % 64) ∷ []
