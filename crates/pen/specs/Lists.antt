-- Walking a list by an index: what is left of it from there on, a byte or a part at a time.
use Rattle.std.specs.Prelude.{◌≡◌, List, ◌∷◌, ◌++◌, ℕ, ◌+◌, ◌-◌, ◌≤◌, ◌<◌, length, take, drop, get_or}
use Rattle.std.proofs.Common.{sym, ◌∙◌, add-one, arith, take-append-drop, drop-cons, drop-drop}

pub drop_one : (s : List ℕ) (i : ℕ) → i < length s → drop i s ≡ get_or s i 0 ∷ drop (i + 1) s
drop_one s i h = rw (add-one, drop-cons s i 0)

pub drop_part : (s : List ℕ) (i j : ℕ) → i ≤ j → drop i s ≡ take (j - i) (drop i s) ++ drop j s
drop_part s i j h =
    let e : i + (j - i) ≡ j = omega arith in
    let d : drop (j - i) (drop i s) ≡ drop j s = drop-drop (j - i) i s ∙ rw e in
    sym (take-append-drop (j - i) (drop i s)) ∙ rw d
