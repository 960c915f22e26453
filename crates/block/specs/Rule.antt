-- The block rule a line at a time: what it asks of the lines that are left, given whether one before them begins with text. The least
-- indent of lines that are not all blank is 0 exactly if some line begins with text.
use Rattle.std.specs.Prelude.{◌≡◌, Bool, ◌&&◌, ◌||◌, List, [], ◌∷◌, ℕ, zero, suc, min, eqb, if◌then◌else◌}
use Rattle.std.proofs.Math.Path.{refl}
use Rattle.std.proofs.Common.{sym, ◌∙◌, arith, eq-eqb, ne_eqb}
use Rattle.std.proofs.Math.Bool.{true, false, not, or-false, or_assoc}
use Rattle.std.proofs.Math.Option.{Option, none, some}
use Rattle.base.specs.Bools.{clash, and_false}
use Rattle.meaning.specs.Ascii.{carriage_return}
use Rattle.meaning.specs.Settings.{is_blank, blank}
use Rattle.meaning.specs.Block.{lines, first_line, last_line, indent, lesser, common_indent, has, is_zero, can_be_block_string}
use Rattle.literal_laws.specs.Lines.{Some, there_is_a_line}

-- a line begins with text
unfoldable pub unindented : List ℕ → Bool
unindented [] = false
unindented (b ∷ l) = not (is_blank b)

unfoldable some_unindented : List (List ℕ) → Bool
unfolding unindented
some_unindented [] = false
some_unindented (l ∷ ls) = unindented l || some_unindented ls

-- what is asked of the lines of v: with the first line of all among them, or not; with a line without indent before them, or not
unfoldable pub remaining : Bool → Bool → List ℕ → Bool
unfolding some_unindented
remaining first found v =
    not (has carriage_return v)
    && (not (first && blank (first_line (lines v)))
    && (not (blank (last_line (lines v))) && (found || some_unindented (lines v))))

-- ---- at the start it is the whole rule

-- there is an indent, and it is 0
abbrev some_zero : Option ℕ → Bool
some_zero none = false
some_zero (some n) = eqb n 0

min_zero : (a m : ℕ) → eqb (min a m) 0 ≡ eqb a 0 || eqb m 0
min_zero zero m = eq-eqb (min 0 m) 0 (omega arith)
min_zero (suc a) zero = eq-eqb (min (suc a) 0) 0 (omega arith) ∙ rw (ne_eqb (suc a) 0 (omega arith))
min_zero (suc a) (suc m) =
    ne_eqb (min (suc a) (suc m)) 0 (omega arith) ∙ rw (ne_eqb (suc a) 0 (omega arith), ne_eqb (suc m) 0 (omega arith))

lesser_zero : (a : ℕ) (k : Option ℕ) → some_zero (lesser a k) ≡ eqb a 0 || some_zero k
unfolding lesser
lesser_zero a none = sym (or-false (eqb a 0))
lesser_zero a (some m) = min_zero a m

blank_is_indented : (l : List ℕ) → blank l ≡ true → unindented l ≡ false
unfolding blank unindented
blank_is_indented [] h = refl
blank_is_indented (b ∷ l) h = go (is_blank b) h
  where
    go : (x : Bool) → x && blank l ≡ true → not x ≡ false
    go true h = refl
    go false h = sym h

unindented_by_indent : (l : List ℕ) → blank l ≡ false → unindented l ≡ eqb (indent l) 0
unfolding blank unindented indent
unindented_by_indent [] h = sym h
unindented_by_indent (b ∷ l) h = go (is_blank b)
  where
    go : (x : Bool) → not x ≡ eqb (if x then suc (indent l) else 0) 0
    go true = sym (ne_eqb (suc (indent l)) 0 (omega arith))
    go false = refl

zero_if_some_unindented : (ls : List (List ℕ)) → some_zero (common_indent ls) ≡ some_unindented ls
unfolding common_indent some_unindented
zero_if_some_unindented [] = refl
zero_if_some_unindented (l ∷ ls) = go (blank l) refl (zero_if_some_unindented ls)
  where
    go : (x : Bool) → blank l ≡ x → some_zero (common_indent ls) ≡ some_unindented ls
        → some_zero (if x then common_indent ls else lesser (indent l) (common_indent ls)) ≡ unindented l || some_unindented ls
    go true e ih = rw (blank_is_indented l e) ih
    go false e ih = rw (unindented_by_indent l e, ← ih) (lesser_zero (indent l) (common_indent ls))

-- a line that is not blank has an indent
zero_is_some_zero : (ls : List (List ℕ)) → blank (first_line ls) ≡ false → is_zero (common_indent ls) ≡ some_zero (common_indent ls)
unfolding common_indent first_line lesser blank
zero_is_some_zero [] h = clash refl h
zero_is_some_zero (l ∷ ls) h = rw h (go (common_indent ls))
  where
    go : (k : Option ℕ) → is_zero (lesser (indent l) k) ≡ some_zero (lesser (indent l) k)
    go none = refl
    go (some m) = refl

pub all_remains : (v : List ℕ) → remaining true false v ≡ can_be_block_string v
unfolding remaining can_be_block_string
all_remains v = go (blank (first_line (lines v))) refl
  where
    ls : List (List ℕ)
    ls = lines v

    go : (x : Bool) → blank (first_line ls) ≡ x
        → not (has carriage_return v) && (not x && (not (blank (last_line ls)) && some_unindented ls))
        ≡ not (has carriage_return v) && (not x && (not (blank (last_line ls)) && is_zero (common_indent ls)))
    go true e = refl
    go false e = rw (zero_is_some_zero ls e, zero_if_some_unindented ls)

-- ---- a line more

last_of_more : (l : List ℕ) (ms : List (List ℕ)) → Some ms → last_line (l ∷ ms) ≡ last_line ms
unfolding last_line
last_of_more l [] o = absurd o
last_of_more l (m ∷ ms) o = refl

module _ (first found : Bool) (v l : List ℕ) where
  pub carriage_return_remains : has carriage_return v ≡ true → remaining first found v ≡ false
  unfolding remaining
  carriage_return_remains h = rw h

  pub last_line_remains : lines v ≡ l ∷ [] → has carriage_return v ≡ false
      → remaining first found v ≡ not (blank l) && (found || unindented l)
  unfolding remaining first_line last_line some_unindented
  last_line_remains e h = rw (e, h, or-false (unindented l)) (go first (blank l) (found || unindented l))
    where
      go : (f b u : Bool) → not (f && b) && (not b && u) ≡ not b && u
      go true true u = refl
      go true false u = refl
      go false b u = refl

  module _ (w : List ℕ) (e : lines v ≡ l ∷ lines w) (h : has carriage_return v ≡ has carriage_return w) where
    pub blank_line_remains : first && blank l ≡ true → remaining first found v ≡ false
    unfolding remaining first_line
    blank_line_remains b = rw (e, b) (and_false (not (has carriage_return v)))

    pub line_remains : first && blank l ≡ false → remaining first found v ≡ remaining false (found || unindented l) w
    unfolding remaining first_line some_unindented
    line_remains b =
        rw (e, h, b, last_of_more l (lines w) (there_is_a_line w), ← (or_assoc found (unindented l) (some_unindented (lines w))))
