-- The number of the node that a search of n nodes found, or n where it found none; and that a search from the first node on finds the
-- smallest.
use Rattle.std.specs.Prelude.{◌≡◌, ℕ, zero, suc, ◌+◌, Bool, true, false, Option, Some, None, map}
use Rattle.std.specs.List.{find, range_with_len}
use Rattle.std.proofs.Common.{refl, arith}
use Rattle.meaning.specs.First.{first}
use Rattle.meaning.specs.declared.NodeNumber.{NodeNumber}
use Rattle.table_laws.specs.First.{FirstFrom, from_end, from_hit, from_miss, from_first}

abbrev pub found_or : ℕ → Option NodeNumber → ℕ
found_or n None = n
found_or n (Some i) = i.0

-- the first of m nodes from i on at which the test holds
abbrev search_from : (ℕ → Bool) → ℕ → ℕ → Option NodeNumber
search_from f i m = find (λ k. f k.0) (map (λ k. record { 0 = k }) (range_with_len i m))

finds_first : (f : ℕ → Bool) (i m n : ℕ) → i + m ≡ n → FirstFrom f i n (found_or n (search_from f i m))
finds_first f i zero n e = let l : i ≡ n = omega arith in rw l from_end
finds_first f i (suc m) n e = go (f i) refl (finds_first f (i + 1) m n (omega arith))
  where
    go : (x : Bool) → f i ≡ x → FirstFrom f (i + 1) n (found_or n (search_from f (i + 1) m)) → FirstFrom f i n (found_or n (search_from f i (suc m)))
    go true h p = rw h (from_hit (omega arith) h)
    go false h p = let s : i + 1 ≡ suc i = omega arith in rw (h, s) (from_miss h (rw s at p))

pub found_first : (f : ℕ → Bool) (n : ℕ) (r : Option NodeNumber) → r ≡ find (λ i. f i.0) (map (λ i. record { 0 = i }) (range_with_len 0 n))
    → found_or n r ≡ first f n
found_first f n r e = rw e (from_first (omega arith) (finds_first f 0 n n (omega arith)))
