-- How many bytes at the front pass a test, as `take_while` counts them.
use Rattle.std.proofs.Common.{◌≡◌, refl, Bool, true, false, not, cond, arith, List, [], ◌∷◌, ℕ, zero, suc, ◌+◌, ◌*◌, ◌≤◌, length, take, drop, length-drop, drop-drop}
use Rattle.std.specs.List.{prefix_len}
use Rattle.std.specs.Simd.{first_chunks}
use Rattle.std.proofs.lemmas.List.Sums.{prefix_len-le-length}
use Rattle.meaning.specs.Settings.{is_blank}
use Rattle.meaning.specs.Block.{indent}
use Rattle.read_block_laws.specs.FirstLine.{is_line_end, line_length}
use Rattle.read_block_laws.specs.Plain.{is_mark, marked, Plain, plain_further, plain_so_far, line_goes_on}

one_more : (b : Bool) (m n : ℕ) → m ≡ n → cond b (1 + m) 0 ≡ cond b (suc n) 0
one_more true m n e = omega (arith, e)
one_more false m n e = refl

pub indent_counted : (s : List ℕ) → prefix_len is_blank s ≡ indent s
unfolding indent
indent_counted [] = refl
indent_counted (b ∷ s) = one_more (is_blank b) _ _ (indent_counted s)

line_counted : (s : List ℕ) → prefix_len (λ b. not (is_line_end b)) s ≡ line_length s
unfolding line_length
line_counted [] = refl
line_counted (b ∷ s) = go (is_line_end b) (line_counted s)
  where
    go : (x : Bool) → prefix_len (λ b. not (is_line_end b)) s ≡ line_length s
        → cond (not x) (1 + prefix_len (λ b. not (is_line_end b)) s) 0 ≡ cond x 0 (suc (line_length s))
    go true e = refl
    go false e = omega (arith, e)

no_mark_counted : (s : List ℕ) → marked (take (prefix_len (λ b. not (is_mark b)) s) s) ≡ false
unfolding marked
no_mark_counted [] = refl
no_mark_counted (b ∷ s) = go (is_mark b) refl (no_mark_counted s)
  where
    go : (x : Bool) → is_mark b ≡ x → marked (take (prefix_len (λ b. not (is_mark b)) s) s) ≡ false
        → marked (take (cond (not x) (1 + prefix_len (λ b. not (is_mark b)) s) 0) (b ∷ s)) ≡ false
    go true e h = refl
    go false e h =
        let one : 1 + prefix_len (λ b. not (is_mark b)) s ≡ suc (prefix_len (λ b. not (is_mark b)) s) = omega arith in
        rw (one, e) h

-- ---- behind bytes that are no marks

pub line_behind : (s : List ℕ) (i : ℕ) → Plain s 0 i → i + prefix_len (λ b. not (is_line_end b)) (drop i s) ≡ line_length s
line_behind s i p = rw (line_counted (drop i s)) (omega (arith, line_goes_on s 0 i p))

pub marks_behind : (s : List ℕ) (i : ℕ) → Plain s 0 i → Plain s 0 (i + prefix_len (λ b. not (is_mark b)) (drop i s))
marks_behind s i p =
    let t : List ℕ = drop i s in
    plain_further s 0 i (prefix_len (λ b. not (is_mark b)) t) p
    (omega (arith, prefix_len-le-length (λ b. not (is_mark b)) t, length-drop i s, p.within))
    (no_mark_counted t)

strides_behind : (s : List ℕ) (i n : ℕ) → Plain s 0 i → i + n * 16 ≤ length s
    → Plain s 0 (i + 16 * prefix_len (λ c. not (marked c)) (first_chunks 16 n (drop i s)))
strides_behind s i zero p h = let z : i + 16 * 0 ≡ i = omega arith in rw z p
strides_behind s i (suc n) p h = go (marked (take 16 (drop i s))) refl (λ q. strides_behind s (i + 16) n q (omega arith))
  where
    go : (x : Bool) → marked (take 16 (drop i s)) ≡ x
        → (Plain s 0 (i + 16) → Plain s 0 (i + 16 + 16 * prefix_len (λ c. not (marked c)) (first_chunks 16 n (drop (i + 16) s))))
        → Plain s 0 (i + 16 * cond (not x) (1 + prefix_len (λ c. not (marked c)) (first_chunks 16 n (drop 16 (drop i s)))) 0)
    go true e r = let z : i + 16 * 0 ≡ i = omega arith in rw z p
    go false e r =
        let k : ℕ = prefix_len (λ c. not (marked c)) (first_chunks 16 n (drop (i + 16) s)) in
        let z : i + 16 + 16 * k ≡ i + 16 * (1 + k) = omega arith in
        rw (drop-drop 16 i s, ← z) (r (plain_further s 0 i 16 p (omega arith) e))

pub plain_strides : (s : List ℕ) (n : ℕ) → n * 16 ≤ length s
    → Plain s 0 (16 * prefix_len (λ c. not (marked c)) (first_chunks 16 n s))
plain_strides s n h =
    let k : ℕ = prefix_len (λ c. not (marked c)) (first_chunks 16 n s) in
    let z : 0 + 16 * k ≡ 16 * k = omega arith in
    rw z at (strides_behind s 0 n (plain_so_far s 0 (omega arith)) (omega arith))
