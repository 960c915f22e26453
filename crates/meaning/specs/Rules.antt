-- Document 01, "Layout": "Fields, fragments, types and definitions: token order and spaces as in 000." A rule a kind, to be held
-- against its `serialize_impl` in 000: the parts of a node in the order in which they are written.
use Rattle.std.specs.Prelude.{ℕ, Bool, true, false, List, [], ◌∷◌, ◌++◌, length, get_or}
use Prim.Native.String.{String}
use Rattle.meaning.specs.Ascii.{ascii}
use Rattle.meaning.specs.Kind
use Rattle.meaning.specs.Children.{Class, a, selection, type, value, named_type}

-- how the items of a comma list stand: as the list stands, on one line, or on one line unless one has a description or a directive
pub data Lines : Type 0 where
  as_here single_line single_line_unless_marked : Lines

pub data Part : Type 0 where
  tok : List ℕ → Part  -- a token
  words : List (List ℕ) → Part  -- the one of these that the variant numbers
  text : Part  -- the node's text as it is
  literal : Bool → Part  -- the node's text as a literal: a description, or a string
  space : Part  -- a space
  new_line_or_space : Part  -- a new line, or a space with breaks off
  one : Class → Part  -- one child
  spaced : Class → Part  -- any number of children, each after a space
  separated : List ℕ → Class → Part  -- any number of children, each after a space, the token and a space
  comma_separated : Lines → List ℕ → List ℕ → Class → Part  -- any number of children as a comma list between two tokens
  curly_brackets : Class → Part  -- one or more children in braces
  if_next : Class → ℕ → Part  -- so many parts stand only where a child of the class is next
  if_text : ℕ → Part  -- .. where the node has a text
  if_variant : ℕ → Part  -- .. where its variant is 1

-- ---- combinators

abbrev pub token : String → List Part
token s = tok (ascii s) ∷ []

abbrev pub spelled : List String → List (List ℕ)
spelled [] = []
spelled (s ∷ ss) = ascii s ∷ spelled ss

abbrev pub one_of : List String → List Part
one_of ss = words (spelled ss) ∷ []

abbrev pub sp : List Part
sp = space ∷ []

abbrev pub name : List Part
name = text ∷ []

abbrev pub child : Class → List Part
child c = one c ∷ []

abbrev pub optional : Class → List Part → List Part
optional c ps = if_next c (length ps) ∷ ps

abbrev pub if_named : List Part → List Part
if_named ps = if_text (length ps) ∷ ps

abbrev pub if_one : List Part → List Part
if_one ps = if_variant (length ps) ∷ ps

-- `serialize_description`
abbrev pub description : List Part
description = optional (a Kind.description) (child (a Kind.description) ++ new_line_or_space ∷ [])

-- `DirectiveList`
abbrev pub directives : List Part
directives = spaced (a Kind.directive) ∷ []

-- `serialize_arguments`, the variables of an operation, `serialize_arguments_definition`
abbrev pub parenthesized : Lines → ℕ → List Part
parenthesized l k = optional (a k) (comma_separated l (ascii "(") (ascii ")") (a k) ∷ [])

abbrev pub arguments : List Part
arguments = parenthesized single_line Kind.argument

abbrev pub variables : List Part
variables = parenthesized single_line Kind.variable_definition

abbrev pub argument_definitions : List Part
argument_definitions = parenthesized single_line_unless_marked Kind.input_value_definition

-- `curly_brackets_space_separated`, and the same where there may be nothing to put in
abbrev pub braces : Class → List Part
braces c = sp ++ curly_brackets c ∷ []

abbrev pub optional_braces : Class → List Part
optional_braces c = optional c (braces c)

-- `first`, then ` | member` for each of the rest
abbrev pub listed : Class → String → List Part
listed c s = child c ++ separated (ascii s) c ∷ []

abbrev pub implements : List Part
implements = optional (a Kind.interface_name) (sp ++ token "implements" ++ sp ++ listed (a Kind.interface_name) "&")

abbrev pub members : List Part
members = optional (a Kind.union_member) (sp ++ token "=" ++ sp ++ listed (a Kind.union_member) "|")

abbrev pub of_type : List Part
of_type = token ":" ++ sp ++ child type

abbrev pub default_value : List Part
default_value = optional value (sp ++ token "=" ++ sp ++ child value)

abbrev pub of_value : List Part
of_value = token ":" ++ sp ++ child value

abbrev pub operation_type : List Part
operation_type = one_of ("query" ∷ "mutation" ∷ "subscription" ∷ [])

-- `Type`'s `!`
abbrev pub non_null : List Part
non_null = if_one (token "!")

abbrev pub location_name : List Part
location_name =
    one_of (
    "QUERY" ∷ "MUTATION" ∷ "SUBSCRIPTION" ∷ "FIELD" ∷ "FRAGMENT_DEFINITION" ∷ "FRAGMENT_SPREAD" ∷ "INLINE_FRAGMENT"
    ∷ "VARIABLE_DEFINITION" ∷ "SCHEMA" ∷ "SCALAR" ∷ "OBJECT" ∷ "FIELD_DEFINITION" ∷ "ARGUMENT_DEFINITION" ∷ "INTERFACE"
    ∷ "UNION" ∷ "ENUM" ∷ "ENUM_VALUE" ∷ "INPUT_OBJECT" ∷ "INPUT_FIELD_DEFINITION" ∷ []
    )

abbrev pub locations : List Part
locations = sp ++ token "on" ++ sp ++ listed (a Kind.location) "|"

abbrev pub directive_definition : List Part
directive_definition = token "directive" ++ sp ++ token "@" ++ name ++ argument_definitions ++ if_one (sp ++ token "repeatable") ++ locations

-- ---- what definitions and extensions share

abbrev pub scalar : List Part
scalar = token "scalar" ++ sp ++ name ++ directives

-- `serialize_object_type_like`
abbrev pub object_like : String → List Part
object_like keyword = token keyword ++ sp ++ name ++ implements ++ directives ++ optional_braces (a Kind.field_definition)

-- `serialize_union`
abbrev pub union : List Part
union = token "union" ++ sp ++ name ++ directives ++ members

abbrev pub enum : List Part
enum = token "enum" ++ sp ++ name ++ directives ++ optional_braces (a Kind.enum_value_definition)

abbrev pub input_object : List Part
input_object = token "input" ++ sp ++ name ++ directives ++ optional_braces (a Kind.input_value_definition)

abbrev pub extend : List Part
extend = token "extend" ++ sp

-- ---- the rules

-- "Shorthand `{`": the selections alone
unfoldable pub shorthand : List Part
shorthand = curly_brackets selection ∷ []

unfoldable pub rules : List (List Part)
rules =
    []  -- 0 Document: see Layout
    ∷ (operation_type ++ if_named (sp ++ name) ++ variables ++ directives ++ braces selection)  -- 1 Operation
    ∷ (token "fragment" ++ sp ++ name ++ sp ++ token "on" ++ sp ++ child named_type ++ directives ++ braces selection)  -- 2 Fragment
    ∷ (description ++ directive_definition)  -- 3 DirectiveDefinition
    ∷ (description ++ token "schema" ++ directives ++ braces (a Kind.root_operation))  -- 4 Schema
    ∷ (description ++ scalar)  -- 5 Scalar
    ∷ (description ++ object_like "type")  -- 6 Object
    ∷ (description ++ object_like "interface")  -- 7 Interface
    ∷ (description ++ union)  -- 8 Union
    ∷ (description ++ enum)  -- 9 Enum
    ∷ (description ++ input_object)  -- 10 InputObject
    ∷ (extend ++ token "schema" ++ directives ++ optional_braces (a Kind.root_operation))  -- 11 extend Schema
    ∷ (extend ++ scalar)  -- 12 extend Scalar
    ∷ (extend ++ object_like "type")  -- 13 extend Object
    ∷ (extend ++ object_like "interface")  -- 14 extend Interface
    ∷ (extend ++ union)  -- 15 extend Union
    ∷ (extend ++ enum)  -- 16 extend Enum
    ∷ (extend ++ input_object)  -- 17 extend InputObject
    ∷ (literal true ∷ [])  -- 18 Description
    ∷ (token "@" ++ name ++ arguments)  -- 19 Directive
    ∷ (name ++ of_value)  -- 20 Argument
    ∷ (token "$" ++ name ++ of_type ++ default_value ++ directives)  -- 21 VariableDefinition
    ∷ (description ++ name ++ of_type ++ default_value ++ directives)  -- 22 InputValueDefinition
    ∷ (description ++ name ++ argument_definitions ++ of_type ++ directives)  -- 23 FieldDefinition
    ∷ (description ++ name ++ directives)  -- 24 EnumValueDefinition
    ∷ (operation_type ++ token ":" ++ sp ++ name)  -- 25 RootOperation
    ∷ name  -- 26 Interface name
    ∷ name  -- 27 Union member
    ∷ location_name  -- 28 Location
    ∷ (optional (a Kind.alias) (child (a Kind.alias) ++ token ":" ++ sp) ++ name ++ arguments ++ directives ++ optional_braces selection)  -- 29 Field
    ∷ name  -- 30 Alias
    ∷ (token "..." ++ name ++ directives)  -- 31 FragmentSpread
    ∷ (token "..." ++ if_named (sp ++ token "on" ++ sp ++ name) ++ directives ++ braces selection)  -- 32 InlineFragment
    ∷ (name ++ non_null)  -- 33 NamedType
    ∷ (token "[" ++ child type ++ token "]" ++ non_null)  -- 34 ListType
    ∷ token "null"  -- 35 Null
    ∷ one_of ("false" ∷ "true" ∷ [])  -- 36 Boolean
    ∷ name  -- 37 Enum
    ∷ (literal false ∷ [])  -- 38 String
    ∷ (token "$" ++ name)  -- 39 Variable
    ∷ name  -- 40 Float
    ∷ name  -- 41 Int
    ∷ (comma_separated as_here (ascii "[") (ascii "]") value ∷ [])  -- 42 List
    ∷ (comma_separated as_here (ascii "{") (ascii "}") (a Kind.object_field) ∷ [])  -- 43 Object
    ∷ (name ++ of_value)  -- 44 ObjectField
    ∷ []

unfoldable pub rule_of : ℕ → List Part
unfolding rules
rule_of k = get_or rules k []
