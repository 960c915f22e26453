-- The remainder of the digits so far may stand for them, since the digits to come only multiply and add.
use Rattle.std.proofs.Common.{◌≡◌, ℕ, ◌+◌, ◌*◌, ◌%◌, ◌/◌, ◌≤◌, ◌<◌, ◌∙◌, List, [], ◌∷◌, sym, length, drop, get_or, add-one, arith, drop-cons, drop_of_length-le}
use Rattle.std.proofs.Math.Nat.{mod-mod, mod-eq_of_lt, div-add-mod, add-mul-mod_self_left}
use Rattle.digest.specs.Digest.{modulus, number_from}

one_digit : (n b : ℕ) → (256 * (n % modulus) + b) % modulus ≡ (256 * n + b) % modulus
one_digit n b =
    let e : 256 * n + b ≡ 256 * (n % modulus) + b + modulus * (256 * (n / modulus)) = omega (arith, div-add-mod n modulus) in
    sym (add-mul-mod_self_left (256 * (n % modulus) + b) modulus (256 * (n / modulus))) ∙ rw e

alike : (s : List ℕ) (m n : ℕ) → m % modulus ≡ n % modulus → number_from m s % modulus ≡ number_from n s % modulus
unfolding number_from
alike [] m n e = e
alike (b ∷ s) m n e = alike s (256 * m + b) (256 * n + b) (sym (one_digit m b) ∙ rw e (one_digit n b))

-- one byte more, and the end
pub digit_more : (s : List ℕ) (i n b : ℕ) → i < length s → b ≡ get_or s i 0
    → number_from ((256 * n + b) % modulus) (drop (i + 1) s) % modulus ≡ number_from n (drop i s) % modulus
unfolding number_from
digit_more s i n b h e = alike (drop (i + 1) s) ((256 * n + b) % modulus) (256 * n + b) (mod-mod (256 * n + b) modulus) ∙ rw (e, add-one, drop-cons s i 0)

pub digits_end : (s : List ℕ) (i n : ℕ) → length s ≤ i → n < modulus → number_from n (drop i s) % modulus ≡ n
unfolding number_from
digits_end s i n h k = rw (drop_of_length-le s h) (mod-eq_of_lt k)
