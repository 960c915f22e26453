-- What the steps of BlockStringValue leave: the first and the last line are not blank, and the least indent is 0, since the common
-- indent is taken from every line and blank lines have no part in it.
use Rattle.std.specs.Prelude.{◌≡◌, refl, Bool, true, false, ◌&&◌, List, [], ◌∷◌, map, ℕ, zero, suc, ◌-◌, ◌≤◌, drop, if◌then◌else◌}
use Rattle.std.proofs.Common.{ap, ◌∙◌, arith, eq-eqb}
use Rattle.std.proofs.Math.Option.{Option, none, some}
use Rattle.base.specs.Bools.{and_right}
use Rattle.meaning.specs.Settings.{is_blank, blank}
use Rattle.meaning.specs.Block.{first_line, last_line, indent, lesser, common_indent, is_zero, removed, drop_blank_front, unless_blank, drop_blank_end}
use Rattle.literal_laws.specs.Lines.{Some}
use Rattle.literal_laws.specs.Rule.{nothing_removed}

-- ---- the first line and the last

pub front_not_blank : (ls : List (List ℕ)) → Some (drop_blank_front ls) → blank (first_line (drop_blank_front ls)) ≡ false
unfolding drop_blank_front first_line
front_not_blank [] o = absurd o
front_not_blank (l ∷ ls) o = go (blank l) refl (front_not_blank ls) o
  where
    go : (x : Bool) → blank l ≡ x → (Some (drop_blank_front ls) → blank (first_line (drop_blank_front ls)) ≡ false)
        → Some (if x then drop_blank_front ls else l ∷ ls) → blank (first_line (if x then drop_blank_front ls else l ∷ ls)) ≡ false
    go true e ih o = ih o
    go false e ih o = e

pub end_keeps_first : (ls : List (List ℕ)) → blank (first_line ls) ≡ false → blank (first_line (drop_blank_end ls)) ≡ false
unfolding drop_blank_end first_line unless_blank
end_keeps_first [] h = h
end_keeps_first (l ∷ ls) h = go (drop_blank_end ls)
  where
    go : (ms : List (List ℕ)) → blank (first_line (unless_blank l ms)) ≡ false
    go [] = rw h h
    go (m ∷ ms) = h

pub end_not_blank : (ls : List (List ℕ)) → Some (drop_blank_end ls) → blank (last_line (drop_blank_end ls)) ≡ false
unfolding drop_blank_end last_line unless_blank
end_not_blank [] o = absurd o
end_not_blank (l ∷ ls) o = go (drop_blank_end ls) (end_not_blank ls) (blank l) refl o
  where
    go : (ms : List (List ℕ)) → (Some ms → blank (last_line ms) ≡ false) → (x : Bool) → blank l ≡ x → Some (unless_blank l ms)
        → blank (last_line (unless_blank l ms)) ≡ false
    go [] ih true e o = let z : Some [] = rw e at o in absurd z
    go [] ih false e o = rw e e
    go (m ∷ ms) ih x e o = ih tt

pub some_before_end : (ls : List (List ℕ)) → Some (drop_blank_end ls) → Some ls
unfolding drop_blank_end
some_before_end [] o = o
some_before_end (l ∷ ls) o = tt

-- ---- the common indent

pub front_keeps_indent : (ls : List (List ℕ)) → common_indent (drop_blank_front ls) ≡ common_indent ls
unfolding drop_blank_front common_indent
front_keeps_indent [] = refl
front_keeps_indent (l ∷ ls) = go (blank l) refl (front_keeps_indent ls)
  where
    go : (x : Bool) → blank l ≡ x → common_indent (drop_blank_front ls) ≡ common_indent ls
        → common_indent (if x then drop_blank_front ls else l ∷ ls)
        ≡ (if x then common_indent ls else lesser (indent l) (common_indent ls))
    go true e ih = ih
    go false e ih = rw e

unless_keeps_indent : (l : List ℕ) (ms : List (List ℕ))
    → common_indent (unless_blank l ms) ≡ (if blank l then common_indent ms else lesser (indent l) (common_indent ms))
unfolding unless_blank common_indent
unless_keeps_indent l [] = go (blank l) refl
  where
    go : (x : Bool) → blank l ≡ x → common_indent (if x then [] else l ∷ []) ≡ (if x then none else lesser (indent l) none)
    go true e = refl
    go false e = rw e
unless_keeps_indent l (m ∷ ms) = refl

pub end_keeps_indent : (ls : List (List ℕ)) → common_indent (drop_blank_end ls) ≡ common_indent ls
unfolding drop_blank_end common_indent
end_keeps_indent [] = refl
end_keeps_indent (l ∷ ls) = unless_keeps_indent l (drop_blank_end ls) ∙ rw (end_keeps_indent ls)

-- ---- the common indent is 0 once it is taken from each line

blank_dropped : (n : ℕ) (l : List ℕ) → blank l ≡ true → blank (drop n l) ≡ true
unfolding blank
blank_dropped zero l h = h
blank_dropped (suc n) [] h = refl
blank_dropped (suc n) (b ∷ l) h = blank_dropped n l (and_right (is_blank b) (blank l) h)

indent_dropped : (n : ℕ) (l : List ℕ) → n ≤ indent l → blank l ≡ false
    → (blank (drop n l) ≡ false) × (indent (drop n l) ≡ indent l - n)
unfolding blank indent
indent_dropped zero l h k = (k, omega arith)
indent_dropped (suc n) [] h k = absurd (omega arith)
indent_dropped (suc n) (b ∷ l) h k = go (is_blank b) (indent_dropped n l) h k
  where
    go : (x : Bool) → (n ≤ indent l → blank l ≡ false → (blank (drop n l) ≡ false) × (indent (drop n l) ≡ indent l - n))
        → suc n ≤ (if x then suc (indent l) else 0) → x && blank l ≡ false
        → (blank (drop n l) ≡ false) × (indent (drop n l) ≡ (if x then suc (indent l) else 0) - suc n)
    go true ih h k = ((ih (omega arith) k).0, omega (arith, (ih (omega arith) k).1))
    go false ih h k = absurd (omega arith)

-- n is at most this indent, if there is one
abbrev AtMost : ℕ → Option ℕ → Type 0
AtMost n none = Unit {0}
AtMost n (some m) = n ≤ m

-- this indent, if there is one, less n
abbrev less : ℕ → Option ℕ → Option ℕ
less n none = none
less n (some m) = some (m - n)

at_most_each : (n a : ℕ) (k : Option ℕ) → AtMost n (lesser a k) → (n ≤ a) × AtMost n k
unfolding lesser
at_most_each n a none h = (h, tt)
at_most_each n a (some m) h = (omega arith, omega arith)

lesser_less : (n a : ℕ) (k : Option ℕ) → lesser (a - n) (less n k) ≡ less n (lesser a k)
unfolding lesser
lesser_less n a none = refl
lesser_less n a (some m) = ap some (omega arith)

indent_removed : (n : ℕ) (ls : List (List ℕ)) → AtMost n (common_indent ls)
    → common_indent (map (removed (some n)) ls) ≡ less n (common_indent ls)
unfolding common_indent removed
indent_removed n [] h = refl
indent_removed n (l ∷ ls) h = go (blank l) refl (indent_removed n ls) h
  where
    go : (x : Bool) → blank l ≡ x
        → (AtMost n (common_indent ls) → common_indent (map (removed (some n)) ls) ≡ less n (common_indent ls))
        → AtMost n (if x then common_indent ls else lesser (indent l) (common_indent ls))
        → (if blank (drop n l)
        then common_indent (map (removed (some n)) ls)
        else lesser (indent (drop n l)) (common_indent (map (removed (some n)) ls)))
        ≡ less n (if x then common_indent ls else lesser (indent l) (common_indent ls))
    go true e ih h = rw (blank_dropped n l e) (ih h)
    go false e ih h =
        let a = at_most_each n (indent l) (common_indent ls) h in
        let d = indent_dropped n l a.0 e in
        rw (d.0, d.1, ih a.1) (lesser_less n (indent l) (common_indent ls))

pub zero_once_removed : (k : Option ℕ) (ls : List (List ℕ)) → common_indent ls ≡ k → is_zero (common_indent (map (removed k) ls)) ≡ true
zero_once_removed none ls e = rw (nothing_removed none refl ls, e)
zero_once_removed (some n) ls e =
    let h : AtMost n (common_indent ls) = rw e (omega arith) in
    rw (indent_removed n ls h, e) (eq-eqb (n - n) 0 (omega arith))
