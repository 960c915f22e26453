-- Runs of a text by their bytes: the bytes of a name behind its first, and what follows digits.
use Rattle.std.proofs.Common.{◌≡◌, refl, Bool, true, false, ◌&&◌, ◌||◌, ap, arith, List, [], ◌∷◌, ℕ, suc, ◌+◌, ◌≤◌, drop, length, get_or}
use Rattle.std.specs.List.{list_all, prefix_len}
use Rattle.meaning.specs.Text.{is_digit, starts_name, goes_on_name, is_name, past_digits}

goes_on_all : (s : List ℕ) → goes_on_name s ≡ list_all (λ b. starts_name b || is_digit b) s
unfolding goes_on_name
goes_on_all [] = refl
goes_on_all (b ∷ s) = ap (λ x. (starts_name b || is_digit b) && x) (goes_on_all s)

pub name_by_bytes : (s : List ℕ) → 1 ≤ length s
    → is_name s ≡ starts_name (get_or s 0 0) && list_all (λ b. starts_name b || is_digit b) (drop 1 s)
unfolding is_name
name_by_bytes [] h = absurd (omega arith)
name_by_bytes (b ∷ s) h = ap (λ x. starts_name b && x) (goes_on_all s)

pub past_digits_drop : (s : List ℕ) → past_digits s ≡ drop (prefix_len is_digit s) s
unfolding past_digits
past_digits_drop [] = refl
past_digits_drop (b ∷ s) = go (is_digit b) refl (past_digits_drop s)
  where
    go : (d : Bool) → is_digit b ≡ d → past_digits s ≡ drop (prefix_len is_digit s) s → past_digits (b ∷ s) ≡ drop (prefix_len is_digit (b ∷ s)) (b ∷ s)
    go true e h = let one : 1 + prefix_len is_digit s ≡ suc (prefix_len is_digit s) = omega arith in rw (e, one) h
    go false e h = rw e
