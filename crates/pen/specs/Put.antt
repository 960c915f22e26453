-- `put d i t`: the list d with t stored from place i on, and what falls past the end left out. Storing one text and then another
-- is storing both, and no law but `put_in_room` asks for room.
use Rattle.std.specs.Prelude.{◌≡◌, refl, List, [], ◌∷◌, ◌++◌, ℕ, suc, min, ◌-◌, ◌+◌, ◌^◌, ◌≤◌, ◌<◌, length, take, drop, get_or, set}
use Rattle.std.proofs.Common.{sym, ◌∙◌, add-zero, add-suc, suc-add, add_assoc, add-one, arith, length-set, drop_of_length-le, take_all, length-take-le, take-append-drop, append_assoc, append-nil}
use Rattle.std.proofs.Math.Decide.{dec_le}
use Rattle.std.proofs.Math.Seq.{set_out}
use Rattle.std.proofs.lemmas.List.Edits.{sets, sets-eq}
use Rattle.pen.specs.Lists.{drop_one}

-- the greatest place: one that would pass it stays there
abbrev pub last : ℕ
last = 2 ^ 64 - 1

unfoldable pub put : List ℕ → ℕ → List ℕ → List ℕ
put d i [] = d
put d i (a ∷ t) = put (set d i a) (suc i) t

pub put_none : (d : List ℕ) (i : ℕ) → put d i [] ≡ d
unfolding put
put_none d i = refl

pub put_one : (d : List ℕ) (i a : ℕ) → set d i a ≡ put d i (a ∷ [])
unfolding put
put_one d i a = refl

pub put_first : (d : List ℕ) (i a : ℕ) (t : List ℕ) → put (set d i a) (i + 1) t ≡ put d i (a ∷ t)
unfolding put
put_first d i a t = rw add-one

pub put_both : (d : List ℕ) (i : ℕ) (t u : List ℕ) → put (put d i t) (i + length t) u ≡ put d i (t ++ u)
unfolding put
put_both d i [] u = rw add-zero
put_both d i (a ∷ t) u = rw (add-suc, ← suc-add) (put_both (set d i a) (suc i) t u)

pub length_put : (d : List ℕ) (i : ℕ) (t : List ℕ) → length (put d i t) ≡ length d
unfolding put
length_put d i [] = refl
length_put d i (a ∷ t) = length_put (set d i a) (suc i) t ∙ length-set d i a

-- past the end nothing is stored
pub put_past : (t d : List ℕ) (i : ℕ) → length d ≤ i → put d i t ≡ d
unfolding put
put_past [] d i h = refl
put_past (a ∷ t) d i h = rw (set_out d i a h) (put_past t d (suc i) (omega arith))

as_sets : (t d : List ℕ) (i : ℕ) → put d i t ≡ sets d i t
unfolding put
as_sets [] d i = refl
as_sets (a ∷ t) d i = as_sets t (set d i a) (suc i)

pub put_in_room : (t d : List ℕ) (i : ℕ) → i + length t ≤ length d → put d i t ≡ take i d ++ t ++ drop (i + length t) d
put_in_room t d i h = as_sets t d i ∙ sets-eq t d i h

-- a place past the greatest stores nothing, as the greatest does
pub put_last : (d : List ℕ) (i : ℕ) (t : List ℕ) → length d ≤ last → put d (min i last) t ≡ put d i t
put_last d i t h = go (dec_le i last)
  where
    go : Dec (i ≤ last) → put d (min i last) t ≡ put d i t
    go (yes k) = let e : min i last ≡ i = omega arith in rw e
    go (no k) = put_past t d (min i last) (omega arith) ∙ sym (put_past t d i (omega arith))

-- a text stored byte by byte: nothing yet, one byte more, and the end, of the text or of the list
pub store_none : (d : List ℕ) (i : ℕ) (t : List ℕ) → put d (i + 0) (drop 0 t) ≡ put d i t
store_none d i t = rw add-zero

pub store_one : (d : List ℕ) (i : ℕ) (t : List ℕ) (k : ℕ) → k < length t
    → put (set d (i + k) (get_or t k 0)) (i + (k + 1)) (drop (k + 1) t) ≡ put d (i + k) (drop k t)
store_one d i t k h = rw (drop_one t k h, ← add_assoc) (put_first d (i + k) (get_or t k 0) (drop (k + 1) t))

pub store_done : (d : List ℕ) (i : ℕ) (t : List ℕ) (k : ℕ) → min (length t) (length d - i) ≤ k → put d (i + k) (drop k t) ≡ d
store_done d i t k h = go (dec_le (length t) k)
  where
    go : Dec (length t ≤ k) → put d (i + k) (drop k t) ≡ d
    go (yes e) = rw (drop_of_length-le t e) (put_none d (i + k))
    go (no e) = put_past (drop k t) d (i + k) (omega arith)

-- the bytes of a text that there is room for, between what stands before and after them
pub put_cut : (d : List ℕ) (i : ℕ) (t : List ℕ) (s n : ℕ) → s ≡ min i (length d) → n ≡ min (length t) (length d - s)
    → take s d ++ (take n t ++ drop (s + n) d) ≡ put d i t
put_cut d i t s n e f = go (dec_le i (length d))
  where
    front : length (take n t) ≡ n
    front = length-take-le n t (omega (arith, f))

    go : Dec (i ≤ length d) → take s d ++ (take n t ++ drop (s + n) d) ≡ put d i t
    go (yes h) =
        let z : s ≡ i = omega (arith, e) in
        let stored : put d i (take n t) ≡ take i d ++ take n t ++ drop (i + n) d =
        rw front at (put_in_room (take n t) d i (omega (arith, e, f, front))) in
        let rest : put (put d i (take n t)) (i + n) (drop n t) ≡ put d i (take n t) =
        store_done (put d i (take n t)) i t n (omega (arith, f, z, length_put d i (take n t))) in
        let both : put (put d i (take n t)) (i + n) (drop n t) ≡ put d i t =
        rw (front, take-append-drop n t) at (put_both d i (take n t) (drop n t)) in
        rw z (sym (append_assoc (take i d) (take n t) (drop (i + n) d)) ∙ sym stored ∙ sym rest ∙ both)
    go (no h) =
        let z : s ≡ length d = omega (arith, e) in
        let y : n ≡ 0 = omega (arith, f, z) in
        rw (z, y) (rw (take_all (length d) d (omega arith), drop_of_length-le d {i = length d + 0} (omega arith)) (append-nil d) ∙ sym (put_past t d i (omega arith)))
