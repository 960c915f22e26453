-- Documents that between them hold all 45 kinds, with the texts that 000 itself gives for them: every rule is seen at work.
use Rattle.std.specs.Prelude.{◌≡◌, refl, ℕ}
use Prim.Native.String.{String}
use Rattle.meaning.specs.Ascii.{ascii}
use Rattle.meaning.specs.Kind
use Rattle.meaning.specs.Tree.{Tree, tree, Forest, none, more}
use Rattle.meaning.specs.Settings.{default_settings}
use Rattle.meaning.specs.Layout.{node_text, document_text}
use Rattle.meaning.specs.Known.{breaks_off}

abbrev node : ℕ → ℕ → String → Forest → Tree
node kind variant text children = tree (record { kind = kind; variant = variant; text = ascii text }) children

abbrev leaf : ℕ → String → Tree
leaf kind text = node kind 0 text none

infixr 20 ◌◂◌
abbrev ◌◂◌ : Tree → Forest → Forest
◌◂◌ t f = more t f

-- ---- every type system definition

abbrev directive_a : Tree
directive_a = node Kind.directive 0 "a" ((node Kind.argument 0 "x" ((leaf Kind.int "1") ◂ none)) ◂ none)

abbrev directive_specified_by : Tree
directive_specified_by = node Kind.directive 0 "specifiedBy" ((node Kind.argument 0 "url" ((leaf Kind.string "u\nv") ◂ none)) ◂ none)

abbrev input_b : Tree
input_b = node Kind.input_value_definition 0 "b" ((node Kind.list_type 0 "" ((leaf Kind.named_type "Int") ◂ none)) ◂ none)

abbrev input_a : Tree
input_a = node Kind.input_value_definition 0 "a" ((leaf Kind.named_type "Int") ◂ (leaf Kind.int "1") ◂ none)

abbrev list_type : Tree
list_type = node Kind.list_type 1 "" ((node Kind.named_type 1 "S" none) ◂ none)

abbrev list : Tree
list = node Kind.list 0 "" ((leaf Kind.int "1") ◂ (leaf Kind.int "2") ◂ none)

abbrev input_b2 : Tree
input_b2 = node Kind.input_value_definition 0 "b" ((leaf Kind.named_type "Int") ◂ list ◂ (leaf Kind.directive "x") ◂ none)

abbrev input_a2 : Tree
input_a2 = node Kind.input_value_definition 0 "a" ((leaf Kind.description "A") ◂ (leaf Kind.named_type "Int") ◂ none)

abbrev list_type2 : Tree
list_type2 = node Kind.list_type 0 "" ((node Kind.list_type 1 "" ((leaf Kind.named_type "Int") ◂ none)) ◂ none)

abbrev field_f : Tree
field_f = node Kind.field_definition 0 "f" ((leaf Kind.description "say \"hi\"") ◂ input_a ◂ input_b ◂ list_type ◂ (leaf Kind.directive "deprecated") ◂ none)

abbrev field_g : Tree
field_g = node Kind.field_definition 0 "g" (input_a2 ◂ input_b2 ◂ list_type2 ◂ none)

abbrev enum_value_definition_a : Tree
enum_value_definition_a = node Kind.enum_value_definition 0 "A" ((leaf Kind.description "a") ◂ (leaf Kind.directive "d") ◂ none)

abbrev object_field_k : Tree
object_field_k = node Kind.object_field 0 "k" ((node Kind.list 0 "" ((leaf Kind.int "1") ◂ (leaf Kind.float "-2.5e3") ◂ none)) ◂ none)

abbrev object_field_o : Tree
object_field_o = node Kind.object_field 0 "o" ((leaf Kind.object_value "") ◂ none)

abbrev object_field_s : Tree
object_field_s = node Kind.object_field 0 "s" ((leaf Kind.string "a\nb") ◂ none)

abbrev object_field_e : Tree
object_field_e = node Kind.object_field 0 "e" ((leaf Kind.list "") ◂ none)

abbrev object : Tree
object = node Kind.object_value 0 "" (object_field_k ◂ object_field_s ◂ object_field_e ◂ object_field_o ◂ none)

abbrev input_b3 : Tree
input_b3 = node Kind.input_value_definition 0 "b" ((leaf Kind.description "b") ◂ (node Kind.named_type 1 "Boolean" none) ◂ (node Kind.boolean 1 "" none) ◂ none)

abbrev input_a3 : Tree
input_a3 = node Kind.input_value_definition 0 "a" ((leaf Kind.named_type "Int") ◂ object ◂ none)

abbrev input_x : Tree
input_x = node Kind.input_value_definition 0 "x" ((leaf Kind.named_type "Int") ◂ none)

abbrev directive_ee : Tree
directive_ee = node Kind.directive_definition 0 "ee" ((leaf Kind.location "") ◂ (node Kind.location 1 "" none) ◂ (node Kind.location 2 "" none) ◂ (node Kind.location 3 "" none) ◂ (node Kind.location 4 "" none) ◂ (node Kind.location 5 "" none) ◂ (node Kind.location 6 "" none) ◂ (node Kind.location 7 "" none) ◂ (node Kind.location 8 "" none) ◂ (node Kind.location 9 "" none) ◂ (node Kind.location 10 "" none) ◂ (node Kind.location 11 "" none) ◂ (node Kind.location 12 "" none) ◂ (node Kind.location 13 "" none) ◂ (node Kind.location 14 "" none) ◂ (node Kind.location 15 "" none) ◂ (node Kind.location 16 "" none) ◂ (node Kind.location 17 "" none) ◂ (node Kind.location 18 "" none) ◂ none)

abbrev schema : Tree
schema = node Kind.schema 0 "" ((leaf Kind.description "The schema.") ◂ directive_a ◂ (leaf Kind.root_operation "Q") ◂ (node Kind.root_operation 1 "M" none) ◂ (node Kind.root_operation 2 "S" none) ◂ none)

abbrev directive_dd : Tree
directive_dd = node Kind.directive_definition 1 "dd" ((leaf Kind.description "d") ◂ input_x ◂ (node Kind.location 3 "" none) ◂ (node Kind.location 18 "" none) ◂ none)

abbrev object_t : Tree
object_t = node Kind.object 0 "T" ((leaf Kind.interface_name "A") ◂ (leaf Kind.interface_name "B") ◂ (leaf Kind.directive "d") ◂ field_f ◂ field_g ◂ none)

abbrev union_u : Tree
union_u = node Kind.union 0 "U" ((leaf Kind.description "u") ◂ (leaf Kind.union_member "A") ◂ (leaf Kind.union_member "B") ◂ none)

abbrev scalar_url : Tree
scalar_url = node Kind.scalar 0 "Url" ((leaf Kind.description "One\n\ntwo") ◂ directive_specified_by ◂ none)

abbrev enum_e : Tree
enum_e = node Kind.enum 0 "E" (enum_value_definition_a ◂ (leaf Kind.enum_value_definition "B") ◂ none)

abbrev interface_i : Tree
interface_i = node Kind.interface 0 "I" ((leaf Kind.description "") ◂ none)

abbrev input_object_in : Tree
input_object_in = node Kind.input_object 0 "In" (input_a3 ◂ input_b3 ◂ none)

abbrev schema_sample : Tree
schema_sample = node Kind.document 0 "" (schema ◂ scalar_url ◂ object_t ◂ interface_i ◂ union_u ◂ enum_e ◂ input_object_in ◂ directive_dd ◂ directive_ee ◂ none)

-- ---- every extension

abbrev field_x : Tree
field_x = node Kind.field_definition 0 "x" ((leaf Kind.named_type "Int") ◂ none)

abbrev input_a4 : Tree
input_a4 = node Kind.input_value_definition 0 "a" ((leaf Kind.named_type "Int") ◂ none)

abbrev extend_schema : Tree
extend_schema = node Kind.extend_schema 0 "" ((leaf Kind.directive "a") ◂ (leaf Kind.root_operation "Q") ◂ none)

abbrev extend_interface_i : Tree
extend_interface_i = node Kind.extend_interface 0 "I" ((leaf Kind.directive "a") ◂ field_x ◂ none)

abbrev extend_enum_e : Tree
extend_enum_e = node Kind.extend_enum 0 "E" ((leaf Kind.enum_value_definition "A") ◂ none)

abbrev extend_object_t : Tree
extend_object_t = node Kind.extend_object 0 "T" ((leaf Kind.interface_name "A") ◂ none)

abbrev extend_scalar_url : Tree
extend_scalar_url = node Kind.extend_scalar 0 "Url" ((leaf Kind.directive "a") ◂ none)

abbrev extend_union_u : Tree
extend_union_u = node Kind.extend_union 0 "U" ((leaf Kind.union_member "A") ◂ none)

abbrev extend_input_object_in : Tree
extend_input_object_in = node Kind.extend_input_object 0 "In" (input_a4 ◂ none)

abbrev extension_sample : Tree
extension_sample = node Kind.document 0 "" (extend_schema ◂ extend_scalar_url ◂ extend_object_t ◂ extend_interface_i ◂ extend_union_u ◂ extend_enum_e ◂ extend_input_object_in ◂ none)

-- ---- operations and fragments, selections and values

abbrev list_type3 : Tree
list_type3 = node Kind.list_type 0 "" ((node Kind.named_type 1 "Int" none) ◂ none)

abbrev list2 : Tree
list2 = node Kind.list 0 "" ((leaf Kind.int "1") ◂ none)

abbrev object_field_e2 : Tree
object_field_e2 = node Kind.object_field 0 "e" ((leaf Kind.enum_value "EN") ◂ none)

abbrev object_field_s2 : Tree
object_field_s2 = node Kind.object_field 0 "s" ((leaf Kind.string "a\nb") ◂ none)

abbrev object_field_x : Tree
object_field_x = node Kind.object_field 0 "x" ((leaf Kind.null "") ◂ none)

abbrev directive_x : Tree
directive_x = node Kind.directive 0 "x" ((node Kind.argument 0 "y" ((leaf Kind.boolean "") ◂ none)) ◂ none)

abbrev argument_o : Tree
argument_o = node Kind.argument 0 "o" ((node Kind.object_value 0 "" (object_field_x ◂ object_field_e2 ◂ object_field_s2 ◂ none)) ◂ none)

abbrev directive_include : Tree
directive_include = node Kind.directive 0 "include" ((node Kind.argument 0 "if" ((node Kind.boolean 1 "" none) ◂ none)) ◂ none)

abbrev inline : Tree
inline = node Kind.inline_fragment 0 "" (directive_x ◂ (leaf Kind.field "b") ◂ none)

abbrev spread_f : Tree
spread_f = node Kind.fragment_spread 0 "F" ((leaf Kind.directive "d") ◂ none)

abbrev inline_t : Tree
inline_t = node Kind.inline_fragment 0 "T" ((leaf Kind.field "a") ◂ none)

abbrev argument_a : Tree
argument_a = node Kind.argument 0 "a" ((leaf Kind.variable "v") ◂ none)

abbrev field_f2 : Tree
field_f2 = node Kind.field 0 "f" ((leaf Kind.alias "al") ◂ argument_a ◂ argument_o ◂ directive_include ◂ spread_f ◂ inline_t ◂ inline ◂ none)

abbrev variable_v : Tree
variable_v = node Kind.variable_definition 0 "v" (list_type3 ◂ list2 ◂ (leaf Kind.directive "d") ◂ none)

abbrev variable_w : Tree
variable_w = node Kind.variable_definition 0 "w" ((leaf Kind.named_type "In") ◂ none)

abbrev subscription_s : Tree
subscription_s = node Kind.operation 2 "S" ((leaf Kind.field "a") ◂ (node Kind.field 0 "b" ((leaf Kind.directive "e") ◂ none)) ◂ none)

abbrev fragment_f : Tree
fragment_f = node Kind.fragment 0 "F" ((leaf Kind.named_type "T") ◂ (leaf Kind.directive "d") ◂ (leaf Kind.field "a") ◂ none)

abbrev query_q : Tree
query_q = node Kind.operation 0 "q" (variable_v ◂ variable_w ◂ (leaf Kind.directive "d") ◂ field_f2 ◂ none)

abbrev mutation : Tree
mutation = node Kind.operation 1 "" ((leaf Kind.field "a") ◂ none)

abbrev query : Tree
query = node Kind.operation 0 "" ((leaf Kind.field "a") ◂ none)

abbrev executable_sample : Tree
executable_sample = node Kind.document 0 "" (query_q ◂ fragment_f ◂ mutation ◂ subscription_s ◂ query ◂ none)

samples :
    (document_text default_settings schema_sample ≡ ascii "\"\"\"The schema.\"\"\"\nschema @a(x: 1) {\n  query: Q\n  mutation: M\n  subscription: S\n}\n\n\"\"\"\nOne\n\ntwo\n\"\"\"\nscalar Url @specifiedBy(url: \"u\\nv\")\n\ntype T implements A & B @d {\n  \"\"\"\n  say \"hi\"\n  \"\"\"\n  f(a: Int = 1, b: [Int]): [S!]! @deprecated\n  g(\n    \"\"\"A\"\"\"\n    a: Int,\n    b: Int = [\n      1,\n      2,\n    ] @x,\n  ): [[Int]!]\n}\n\n\"\"\ninterface I\n\n\"\"\"u\"\"\"\nunion U = A | B\n\nenum E {\n  \"\"\"a\"\"\"\n  A @d\n  B\n}\n\ninput In {\n  a: Int = {\n    k: [\n      1,\n      -2.5e3,\n    ],\n    s: \"\"\"\n    a\n    b\n    \"\"\",\n    e: [],\n    o: {},\n  }\n  \"\"\"b\"\"\"\n  b: Boolean! = true\n}\n\n\"\"\"d\"\"\"\ndirective @dd(x: Int) repeatable on FIELD | INPUT_FIELD_DEFINITION\n\ndirective @ee on QUERY | MUTATION | SUBSCRIPTION | FIELD | FRAGMENT_DEFINITION | FRAGMENT_SPREAD | INLINE_FRAGMENT | VARIABLE_DEFINITION | SCHEMA | SCALAR | OBJECT | FIELD_DEFINITION | ARGUMENT_DEFINITION | INTERFACE | UNION | ENUM | ENUM_VALUE | INPUT_OBJECT | INPUT_FIELD_DEFINITION\n")
    × (document_text breaks_off schema_sample ≡ ascii "\"The schema.\" schema @a(x: 1) { query: Q mutation: M subscription: S } \"One\\n\\ntwo\" scalar Url @specifiedBy(url: \"u\\nv\") type T implements A & B @d { \"say \\\"hi\\\"\" f(a: Int = 1, b: [Int]): [S!]! @deprecated g(\"A\" a: Int, b: Int = [1, 2] @x): [[Int]!] } \"\" interface I \"u\" union U = A | B enum E { \"a\" A @d B } input In { a: Int = {k: [1, -2.5e3], s: \"a\\nb\", e: [], o: {}} \"b\" b: Boolean! = true } \"d\" directive @dd(x: Int) repeatable on FIELD | INPUT_FIELD_DEFINITION directive @ee on QUERY | MUTATION | SUBSCRIPTION | FIELD | FRAGMENT_DEFINITION | FRAGMENT_SPREAD | INLINE_FRAGMENT | VARIABLE_DEFINITION | SCHEMA | SCALAR | OBJECT | FIELD_DEFINITION | ARGUMENT_DEFINITION | INTERFACE | UNION | ENUM | ENUM_VALUE | INPUT_OBJECT | INPUT_FIELD_DEFINITION")
    × (document_text default_settings extension_sample ≡ ascii "extend schema @a {\n  query: Q\n}\n\nextend scalar Url @a\n\nextend type T implements A\n\nextend interface I @a {\n  x: Int\n}\n\nextend union U = A\n\nextend enum E {\n  A\n}\n\nextend input In {\n  a: Int\n}\n")
    × (document_text breaks_off extension_sample ≡ ascii "extend schema @a { query: Q } extend scalar Url @a extend type T implements A extend interface I @a { x: Int } extend union U = A extend enum E { A } extend input In { a: Int }")
    × (document_text default_settings executable_sample ≡ ascii "query q($v: [Int!] = [1] @d, $w: In) @d {\n  al: f(a: $v, o: {x: null, e: EN, s: \"a\\nb\"}) @include(if: true) {\n    ...F @d\n    ... on T {\n      a\n    }\n    ... @x(y: false) {\n      b\n    }\n  }\n}\n\nfragment F on T @d {\n  a\n}\n\nmutation {\n  a\n}\n\nsubscription S {\n  a\n  b @e\n}\n\nquery {\n  a\n}\n")
    × (document_text breaks_off executable_sample ≡ ascii "query q($v: [Int!] = [1] @d, $w: In) @d { al: f(a: $v, o: {x: null, e: EN, s: \"a\\nb\"}) @include(if: true) { ...F @d ... on T { a } ... @x(y: false) { b } } } fragment F on T @d { a } mutation { a } subscription S { a b @e } query { a }")
unfolding document_text node_text
samples = (refl, refl, refl, refl, refl, refl)
