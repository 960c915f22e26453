-- The kinds of src/ by the names of document 01, whose numbers `Kind` has.
use Rattle.std.specs.Prelude.{ℕ, ◌≡◌, ◌≤◌, Result, Ok, Err}
use Rattle.meaning.specs.Kind as kinds
use Rattle.meaning.specs.declared.kind.Kind.{Kind}
use Rattle.meaning.specs.declared.kind.NoKind.{NoKind}
use Rattle.meaning.specs.declared.kind.Kind.TheVariants.{Document, Operation, Fragment, DirectiveDefinition, Schema, Scalar, Object, Interface, Union, Enum, InputObject, ExtendSchema, ExtendScalar, ExtendObject, ExtendInterface, ExtendUnion, ExtendEnum, ExtendInputObject, Description, Directive, Argument, VariableDefinition, InputValueDefinition, FieldDefinition, EnumValueDefinition, RootOperation, InterfaceName, UnionMember, Location, Field, Alias, FragmentSpread, InlineFragment, NamedType, ListType, Null, Boolean, EnumValue, String, Variable, Float, Int, List, ObjectValue, ObjectField}

abbrev pub kind_number : Kind → ℕ
kind_number Document = kinds.document
kind_number Operation = kinds.operation
kind_number Fragment = kinds.fragment
kind_number DirectiveDefinition = kinds.directive_definition
kind_number Schema = kinds.schema
kind_number Scalar = kinds.scalar
kind_number Object = kinds.object
kind_number Interface = kinds.interface
kind_number Union = kinds.union
kind_number Enum = kinds.enum
kind_number InputObject = kinds.input_object
kind_number ExtendSchema = kinds.extend_schema
kind_number ExtendScalar = kinds.extend_scalar
kind_number ExtendObject = kinds.extend_object
kind_number ExtendInterface = kinds.extend_interface
kind_number ExtendUnion = kinds.extend_union
kind_number ExtendEnum = kinds.extend_enum
kind_number ExtendInputObject = kinds.extend_input_object
kind_number Description = kinds.description
kind_number Directive = kinds.directive
kind_number Argument = kinds.argument
kind_number VariableDefinition = kinds.variable_definition
kind_number InputValueDefinition = kinds.input_value_definition
kind_number FieldDefinition = kinds.field_definition
kind_number EnumValueDefinition = kinds.enum_value_definition
kind_number RootOperation = kinds.root_operation
kind_number InterfaceName = kinds.interface_name
kind_number UnionMember = kinds.union_member
kind_number Location = kinds.location
kind_number Field = kinds.field
kind_number Alias = kinds.alias
kind_number FragmentSpread = kinds.fragment_spread
kind_number InlineFragment = kinds.inline_fragment
kind_number NamedType = kinds.named_type
kind_number ListType = kinds.list_type
kind_number Null = kinds.null
kind_number Boolean = kinds.boolean
kind_number EnumValue = kinds.enum_value
kind_number String = kinds.string
kind_number Variable = kinds.variable
kind_number Float = kinds.float
kind_number Int = kinds.int
kind_number List = kinds.list
kind_number ObjectValue = kinds.object_value
kind_number ObjectField = kinds.object_field

-- the kind of this number, where there is one; where there is none, the number
abbrev pub Named : ℕ → Result Kind NoKind → Type 0
Named n (Ok k) = kind_number k ≡ n
Named n (Err e) = (kinds.count ≤ n) × (e.0 ≡ n)
