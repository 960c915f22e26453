-- Document 01, "The node table": the table of kinds, a row a kind: its text, its variants, its children in order.
use Rattle.std.specs.Prelude.{ℕ, Bool, ◌&&◌, ◌||◌, eqb, leb, get_or, if◌then◌else◌}
use Rattle.std.proofs.Math.Bool.{true, false}
use mathlib.Core.List.{List, [], ◌∷◌, map}
use Rattle.meaning.specs.Kind

-- ---- what a place among the children asks for

pub data Class : Type 0 where
  a : ℕ → Class  -- a node of this kind
  definition selection type value : Class
  named_type : Class  -- "one 33 of variant 0"

abbrev pub from◌to◌ : ℕ → ℕ → ℕ → Bool
from◌to◌ low high k = leb low k && leb k high

-- "definitions 1 to 17", "S = selections (29, 31, 32)", types 33 and 34, values 35 to 43
unfoldable pub is_in : Class → ℕ → ℕ → Bool
is_in (a k) kind variant = eqb kind k
is_in definition kind variant = from◌to◌ Kind.operation Kind.extend_input_object kind
is_in selection kind variant = eqb kind Kind.field || from◌to◌ Kind.fragment_spread Kind.inline_fragment kind
is_in type kind variant = from◌to◌ Kind.named_type Kind.list_type kind
is_in value kind variant = from◌to◌ Kind.null Kind.object_value kind
is_in named_type kind variant = eqb kind Kind.named_type && eqb variant 0

-- one child of a class, at most one (`?`), any number (`*`), one or more (`+`)
pub data Slot : Type 0 where
  one opt any some : Class → Slot

-- "D = Description?, .. @ = Directive*"
abbrev pub D : Slot
D = opt (a Kind.description)

abbrev pub directives : Slot
directives = any (a Kind.directive)

-- ---- the rows

-- what a kind's text is
pub data TextRule : Type 0 where
  no_text name name_or_empty fragment_name enum_name float int any_text : TextRule

pub record Row : Type 0 where
  pub text : TextRule
  pub variants : ℕ
  pub children : List Slot

abbrev pub row : TextRule → ℕ → List Slot → Row
row t n cs = record { text = t; variants = n; children = cs }

-- "11 to 17 extensions of 4 to 10 | as 4 to 10 | same, no D, repeats may be absent, ..": one or more becomes any number
abbrev pub repeat : Slot → Slot
repeat (one c) = one c
repeat (opt c) = opt c
repeat (any c) = any c
repeat (some c) = any c

abbrev pub without_d : List Slot → List Slot
without_d [] = []
without_d (d ∷ cs) = map repeat cs

abbrev pub extension : Row → Row
extension r = row r.text r.variants (without_d r.children)

abbrev schema : Row
schema = row no_text 1 (D ∷ directives ∷ some (a Kind.root_operation) ∷ [])

abbrev scalar : Row
scalar = row name 1 (D ∷ directives ∷ [])

-- Object, Interface
abbrev object : Row
object = row name 1 (D ∷ any (a Kind.interface_name) ∷ directives ∷ any (a Kind.field_definition) ∷ [])

abbrev union : Row
union = row name 1 (D ∷ directives ∷ any (a Kind.union_member) ∷ [])

abbrev enum : Row
enum = row name 1 (D ∷ directives ∷ any (a Kind.enum_value_definition) ∷ [])

abbrev input_object : Row
input_object = row name 1 (D ∷ directives ∷ any (a Kind.input_value_definition) ∷ [])

unfoldable pub rows : List Row
rows =
    row no_text 1 (any definition ∷ [])  -- 0 Document
    ∷ row name_or_empty 3 (any (a Kind.variable_definition) ∷ directives ∷ some selection ∷ [])  -- 1 Operation
    ∷ row fragment_name 1 (one named_type ∷ directives ∷ some selection ∷ [])  -- 2 Fragment
    ∷ row name 2 (D ∷ any (a Kind.input_value_definition) ∷ some (a Kind.location) ∷ [])  -- 3 DirectiveDefinition
    ∷ schema  -- 4 Schema
    ∷ scalar  -- 5 Scalar
    ∷ object  -- 6 Object
    ∷ object  -- 7 Interface
    ∷ union  -- 8 Union
    ∷ enum  -- 9 Enum
    ∷ input_object  -- 10 InputObject
    ∷ extension schema  -- 11 extend Schema
    ∷ extension scalar  -- 12 extend Scalar
    ∷ extension object  -- 13 extend Object
    ∷ extension object  -- 14 extend Interface
    ∷ extension union  -- 15 extend Union
    ∷ extension enum  -- 16 extend Enum
    ∷ extension input_object  -- 17 extend InputObject
    ∷ row any_text 1 []  -- 18 Description
    ∷ row name 1 (any (a Kind.argument) ∷ [])  -- 19 Directive
    ∷ row name 1 (one value ∷ [])  -- 20 Argument
    ∷ row name 1 (one type ∷ opt value ∷ directives ∷ [])  -- 21 VariableDefinition
    ∷ row name 1 (D ∷ one type ∷ opt value ∷ directives ∷ [])  -- 22 InputValueDefinition
    ∷ row name 1 (D ∷ any (a Kind.input_value_definition) ∷ one type ∷ directives ∷ [])  -- 23 FieldDefinition
    ∷ row enum_name 1 (D ∷ directives ∷ [])  -- 24 EnumValueDefinition
    ∷ row name 3 []  -- 25 RootOperation
    ∷ row name 1 []  -- 26 Interface name
    ∷ row name 1 []  -- 27 Union member
    ∷ row no_text 19 []  -- 28 Location
    ∷ row name 1 (opt (a Kind.alias) ∷ any (a Kind.argument) ∷ directives ∷ any selection ∷ [])  -- 29 Field
    ∷ row name 1 []  -- 30 Alias
    ∷ row fragment_name 1 (directives ∷ [])  -- 31 FragmentSpread
    ∷ row name_or_empty 1 (directives ∷ some selection ∷ [])  -- 32 InlineFragment
    ∷ row name 2 []  -- 33 NamedType
    ∷ row no_text 2 (one type ∷ [])  -- 34 ListType
    ∷ row no_text 1 []  -- 35 Null
    ∷ row no_text 2 []  -- 36 Boolean
    ∷ row enum_name 1 []  -- 37 Enum
    ∷ row any_text 1 []  -- 38 String
    ∷ row name 1 []  -- 39 Variable
    ∷ row float 1 []  -- 40 Float
    ∷ row int 1 []  -- 41 Int
    ∷ row no_text 1 (any value ∷ [])  -- 42 List
    ∷ row no_text 1 (any (a Kind.object_field) ∷ [])  -- 43 Object
    ∷ row name 1 (one value ∷ [])  -- 44 ObjectField
    ∷ []

-- a kind that is not known has no variant
unfoldable pub row_of : ℕ → Row
unfolding rows
row_of k = get_or rows k (row no_text 0 [])

-- ---- children in order; `test` says whether a child is of a class

module _ {X : Type 0} (test : Class → X → Bool) where
  abbrev pub starts : Class → List X → Bool
  starts c [] = false
  starts c (x ∷ xs) = test c x

  abbrev pub rest : List X → List X
  rest [] = []
  rest (x ∷ xs) = xs

  -- the leading children of a class, and what follows them
  unfoldable pub run : Class → List X → List X
  run c [] = []
  run c (x ∷ xs) = let ys = x ∷ run c xs in if test c x then ys else []

  unfoldable pub past : Class → List X → List X
  past c [] = []
  past c (x ∷ xs) = let ys = past c xs in if test c x then ys else x ∷ xs

  -- the children are as the slots list them
  unfoldable pub fill : List Slot → List X → Bool
  unfolding past
  fill [] [] = true
  fill [] (x ∷ xs) = false
  fill (one c ∷ ss) xs = starts c xs && fill ss (rest xs)
  fill (opt c ∷ ss) xs = fill ss (if starts c xs then rest xs else xs)
  fill (any c ∷ ss) xs = fill ss (past c xs)
  fill (some c ∷ ss) xs = starts c xs && fill ss (past c xs)
