-- The magic, and words stored one by one.
use Rattle.std.proofs.Common.{◌≡◌, ◌∙◌, refl, ℕ, suc, ◌+◌, ◌-◌, ◌*◌, ◌≤◌, ◌<◌, List, [], ◌∷◌, ◌++◌, length, drop, set, eqb, arith, add-one}
use Rattle.std.specs.Cmp.Lexicographic.{pointwise}
use Rattle.std.proofs.lemmas.Bool.Decides.{nat_tests}
use Rattle.std.proofs.lemmas.List.Edits.{sets, sets-eq}
use Rattle.meaning.specs.Text.{same}
use Rattle.table_file.specs.Within.{numbers_length}
use Rattle.table_file.specs.File.{number_at, numbers_at}

-- two texts compared by the library
eqb_turned : (b c : ℕ) → eqb c b ≡ eqb b c
eqb_turned b c = grind (arith, nat_tests)

pub same_pointwise : (s t : List ℕ) → pointwise eqb t s ≡ same s t
unfolding same
same_pointwise [] [] = refl
same_pointwise [] (c ∷ t) = refl
same_pointwise (b ∷ s) [] = refl
same_pointwise (b ∷ s) (c ∷ t) = rw (eqb_turned b c, same_pointwise s t)

-- numbers stored one by one from the front
pub store_number : (d s : List ℕ) (i n v : ℕ) → i < n → v ≡ number_at s (16 + 4 * i)
    → sets (set d i v) (i + 1) (numbers_at (n - (i + 1)) s (16 + 4 * (i + 1))) ≡ sets d i (numbers_at (n - i) s (16 + 4 * i))
unfolding numbers_at
store_number d s i n v h e =
    let z : n - i ≡ suc (n - (i + 1)) = omega arith in
    let y : 16 + 4 * (i + 1) ≡ 16 + 4 * i + 4 = omega arith in
    rw (z, e, y, add-one i)

pub store_none : (d s : List ℕ) (i n : ℕ) → n ≤ i → sets d i (numbers_at (n - i) s (16 + 4 * i)) ≡ d
unfolding numbers_at
store_none d s i n h = let z : n - i ≡ 0 = omega arith in rw z

pub store_all : (d s : List ℕ) (n : ℕ) → n ≤ length d → sets d 0 (numbers_at n s 16) ≡ numbers_at n s 16 ++ drop n d
store_all d s n h =
    let l = numbers_length n s 16 in
    let z : 0 + length (numbers_at n s 16) ≡ n = omega (arith, l) in
    sets-eq (numbers_at n s 16) d 0 (omega (arith, l)) ∙ rw z
