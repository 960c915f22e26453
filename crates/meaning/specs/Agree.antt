-- The rules hold the children that document 01 lists: for every kind, the slots of its rule are the slots of its row, by one
-- computed test. (The Document's children are its definitions: see Layout.)
use Rattle.std.specs.Prelude.{◌≡◌, refl, ℕ, zero, suc, ◌+◌, ◌-◌, ◌*◌, Bool, true, ◌&&◌, ◌||◌, List, [], ◌∷◌, eqb, if◌then◌else◌}
use Rattle.meaning.specs.Kind
use Rattle.meaning.specs.Children.{Class, a, definition, selection, type, value, named_type, Slot, one, opt, any, some, row_of}
use Rattle.meaning.specs.Rules.{Part, tok, words, text, literal, space, new_line_or_space, one as one_child, spaced, separated, comma_separated, curly_brackets, if_next, if_text, if_variant, rule_of}
use Rattle.meaning.specs.Text.{same}

-- a class and a slot by number
abbrev class_number : Class → ℕ
class_number (a k) = k
class_number definition = 50
class_number selection = 51
class_number type = 52
class_number value = 53
class_number named_type = 54

abbrev slot_number : Slot → ℕ
slot_number (one c) = class_number c * 4
slot_number (opt c) = class_number c * 4 + 1
slot_number (any c) = class_number c * 4 + 2
slot_number (some c) = class_number c * 4 + 3

abbrev numbers : List Slot → List ℕ
numbers [] = []
numbers (s ∷ ss) = slot_number s ∷ numbers ss

-- one, or at most one, and then any number of the same class
abbrev joined : Class → Slot → Slot → List Slot → List Slot
joined c alone many [] = alone ∷ []
joined c alone many (any d ∷ ss) = if eqb (class_number c) (class_number d) then many ∷ ss else alone ∷ any d ∷ ss
joined c alone many (one d ∷ ss) = alone ∷ one d ∷ ss
joined c alone many (opt d ∷ ss) = alone ∷ opt d ∷ ss
joined c alone many (some d ∷ ss) = alone ∷ some d ∷ ss

-- the slots of a rule; the number counts the parts that may be left out
unfoldable pub slots : ℕ → List Part → List Slot
slots k [] = []
slots k (tok t ∷ ps) = slots (k - 1) ps
slots k (words ts ∷ ps) = slots (k - 1) ps
slots k (text ∷ ps) = slots (k - 1) ps
slots k (literal d ∷ ps) = slots (k - 1) ps
slots k (space ∷ ps) = slots (k - 1) ps
slots k (new_line_or_space ∷ ps) = slots (k - 1) ps
slots zero (one_child c ∷ ps) = joined c (one c) (some c) (slots 0 ps)
slots (suc k) (one_child c ∷ ps) = joined c (opt c) (any c) (slots k ps)
slots k (spaced c ∷ ps) = any c ∷ slots (k - 1) ps
slots k (separated t c ∷ ps) = any c ∷ slots (k - 1) ps
slots k (comma_separated l left right c ∷ ps) = any c ∷ slots (k - 1) ps
slots zero (curly_brackets c ∷ ps) = some c ∷ slots 0 ps
slots (suc k) (curly_brackets c ∷ ps) = any c ∷ slots k ps
slots k (if_next c n ∷ ps) = slots n ps
slots k (if_text n ∷ ps) = slots (k - 1) ps
slots k (if_variant n ∷ ps) = slots (k - 1) ps

unfoldable pub agrees : ℕ → Bool
unfolding slots same rule_of row_of
agrees k = eqb k Kind.document || same (numbers (slots 0 (rule_of k))) (numbers (row_of k).children)

abbrev pub all_below : ℕ → Bool
all_below zero = true
all_below (suc n) = agrees n && all_below n

pub rules_hold_the_listed_children : all_below Kind.count ≡ true
unfolding agrees
rules_hold_the_listed_children = refl
