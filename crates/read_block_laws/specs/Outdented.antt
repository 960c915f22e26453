-- The common indent taken from each line: of a line that is not blank all of it is there, and a blank line has that much or loses
-- all. So it is the same to take at most so many blanks from each line, which never makes a line blank, whatever the line.
use Rattle.std.specs.Prelude.{◌≡◌, Bool, ◌&&◌, drop, if◌then◌else◌}
use Rattle.std.proofs.Math.Path.{refl}
use Rattle.std.proofs.Common.{◌∙◌}
use Rattle.std.proofs.Math.Bool.{true, false}
use Rattle.std.proofs.Math.Option.{Option, none, some}
use mathlib.Core.List.{List, [], ◌∷◌, map}
use Prim.Native.Nat.{ℕ, zero, suc, min, ◌≤◌}
use native.Mathlib.Omega.{arith}
use Rattle.base.specs.Bools.{and_left, and_right}
use Rattle.meaning.specs.Settings.{is_blank, blank}
use Rattle.meaning.specs.Block.{indent, lesser, common_indent, removed, drop_blank_front, unless_blank, drop_blank_end}
use Rattle.read_block_laws.specs.Unescaped.{unescaped}
use Rattle.read_block_laws.specs.LinesUnescaped.{blank_unescaped, indent_unescaped, blanks_dropped_unescaped}

-- a line less at most n of its blanks
unfoldable pub outdented : ℕ → List ℕ → List ℕ
outdented n l = drop (min n (indent l)) l

-- the number of an indent, 0 where there is none
abbrev pub number_of : Option ℕ → ℕ
number_of none = 0
number_of (some n) = n

-- ---- the common indent

drop_within_blanks : (n : ℕ) (l : List ℕ) → n ≤ indent l → drop n l ≡ outdented n l
unfolding outdented
drop_within_blanks n l h = let e : min n (indent l) ≡ n = omega arith in rw e

drop_from_blank : (n : ℕ) (l : List ℕ) → blank l ≡ true → drop n l ≡ outdented n l
unfolding outdented blank
drop_from_blank zero l h = let e : min 0 (indent l) ≡ 0 = omega arith in rw e
drop_from_blank (suc n) [] h = let e : min (suc n) (indent []) ≡ 0 = unfold indent in omega arith in rw e
drop_from_blank (suc n) (b ∷ l) h =
    let i : indent (b ∷ l) ≡ suc (indent l) = unfold indent in rw (and_left (is_blank b) (blank l) h) in
    let e : min (suc n) (indent (b ∷ l)) ≡ suc (min n (indent l)) = omega arith in
    rw e (drop_from_blank n l (and_right (is_blank b) (blank l) h))

-- n is at most this indent, if there is one
abbrev AtMost : ℕ → Option ℕ → Type 0
AtMost n none = Unit {0}
AtMost n (some m) = n ≤ m

at_most_each : (n a : ℕ) (o : Option ℕ) → AtMost n (lesser a o) → (n ≤ a) × AtMost n o
unfolding lesser
at_most_each n a none h = (h, tt)
at_most_each n a (some m) h = (omega arith, omega arith)

removed_at_most : (n : ℕ) (ls : List (List ℕ)) → AtMost n (common_indent ls) → map (removed (some n)) ls ≡ map (outdented n) ls
unfolding common_indent removed
removed_at_most n [] h = refl
removed_at_most n (l ∷ ls) h = go (blank l) refl h (removed_at_most n ls)
  where
    go : (x : Bool) → blank l ≡ x → AtMost n (if x then common_indent ls else lesser (indent l) (common_indent ls))
        → (AtMost n (common_indent ls) → map (removed (some n)) ls ≡ map (outdented n) ls)
        → drop n l ∷ map (removed (some n)) ls ≡ outdented n l ∷ map (outdented n) ls
    go true e h ih = rw (drop_from_blank n l e, ih h)
    go false e h ih = let a = at_most_each n (indent l) (common_indent ls) h in rw (drop_within_blanks n l a.0, ih a.1)

none_removed : (ls : List (List ℕ)) → map (removed none) ls ≡ map (outdented 0) ls
unfolding removed
none_removed [] = refl
none_removed (l ∷ ls) = rw (← (drop_within_blanks 0 l (omega arith)), none_removed ls)

pub removed_is_outdented : (o : Option ℕ) (ls : List (List ℕ)) → common_indent ls ≡ o
    → map (removed o) ls ≡ map (outdented (number_of o)) ls
removed_is_outdented none ls e = none_removed ls
removed_is_outdented (some n) ls e = removed_at_most n ls (rw e (omega arith))

-- ---- blanks

blanks_dropped : (n : ℕ) (l : List ℕ) → n ≤ indent l → blank (drop n l) ≡ blank l
unfolding indent blank
blanks_dropped zero l h = refl
blanks_dropped (suc n) [] h = refl
blanks_dropped (suc n) (b ∷ l) h = go (is_blank b) h (blanks_dropped n l)
  where
    go : (x : Bool) → suc n ≤ (if x then suc (indent l) else 0) → (n ≤ indent l → blank (drop n l) ≡ blank l)
        → blank (drop n l) ≡ x && blank l
    go true h ih = ih (omega arith)
    go false h ih = absurd (omega arith)

pub outdented_unescaped : (n : ℕ) (l : List ℕ) → outdented n (unescaped l) ≡ unescaped (outdented n l)
unfolding outdented
outdented_unescaped n l = rw (indent_unescaped l) (blanks_dropped_unescaped (min n (indent l)) l (omega arith))

-- a line as it is written
abbrev pub line_text : ℕ → List ℕ → List ℕ
line_text n l = unescaped (outdented n l)

pub blank_line_text : (n : ℕ) (l : List ℕ) → blank (line_text n l) ≡ blank l
blank_line_text n l = blank_unescaped (outdented n l) ∙ (unfold outdented in blanks_dropped (min n (indent l)) l (omega arith))

-- ---- trimming sees only which lines are blank

module _ (f : List ℕ → List ℕ) (same : (l : List ℕ) → blank (f l) ≡ blank l) where
  pub front_by_line : (ls : List (List ℕ)) → drop_blank_front (map f ls) ≡ map f (drop_blank_front ls)
  unfolding drop_blank_front
  front_by_line [] = refl
  front_by_line (l ∷ ls) = rw (same l, front_by_line ls) (go (blank l))
    where
      go : (x : Bool) → (if x then map f (drop_blank_front ls) else f l ∷ map f ls) ≡ map f (if x then drop_blank_front ls else l ∷ ls)
      go true = refl
      go false = refl

  unless_by_line : (l : List ℕ) (ms : List (List ℕ)) → unless_blank (f l) (map f ms) ≡ map f (unless_blank l ms)
  unfolding unless_blank
  unless_by_line l [] = rw (same l) (go (blank l))
    where
      go : (x : Bool) → (if x then [] else f l ∷ []) ≡ map f (if x then [] else l ∷ [])
      go true = refl
      go false = refl
  unless_by_line l (m ∷ ms) = refl

  pub end_by_line : (ls : List (List ℕ)) → drop_blank_end (map f ls) ≡ map f (drop_blank_end ls)
  unfolding drop_blank_end
  end_by_line [] = refl
  end_by_line (l ∷ ls) = rw (end_by_line ls) (unless_by_line l (drop_blank_end ls))
