-- A kind is told by its number.
use Rattle.std.specs.Prelude.{◌≡◌, refl, ℕ, ◌<◌, Bool, true, false, eqb, if◌then◌else◌}
use Rattle.std.proofs.Common.{sym, ap, ◌∙◌, arith, eq-eqb, ne_eqb}
use Rattle.meaning.specs.Kind.{count}
use Rattle.meaning.specs.KindNumbers.{kind_number}
use Rattle.meaning.specs.declared.kind.Kind.{Kind}
use Rattle.meaning.specs.declared.kind.Kind.TheVariants.{Document, Operation, Fragment, DirectiveDefinition, Schema, Scalar, Object, Interface, Union, Enum, InputObject, ExtendSchema, ExtendScalar, ExtendObject, ExtendInterface, ExtendUnion, ExtendEnum, ExtendInputObject, Description, Directive, Argument, VariableDefinition, InputValueDefinition, FieldDefinition, EnumValueDefinition, RootOperation, InterfaceName, UnionMember, Location, Field, Alias, FragmentSpread, InlineFragment, NamedType, ListType, Null, Boolean, EnumValue, String, Variable, Float, Int, List, ObjectValue, ObjectField}

abbrev kind_of : ℕ → Kind
kind_of n =
    if eqb n 0 then Document
    else if eqb n 1 then Operation
    else if eqb n 2 then Fragment
    else if eqb n 3 then DirectiveDefinition
    else if eqb n 4 then Schema
    else if eqb n 5 then Scalar
    else if eqb n 6 then Object
    else if eqb n 7 then Interface
    else if eqb n 8 then Union
    else if eqb n 9 then Enum
    else if eqb n 10 then InputObject
    else if eqb n 11 then ExtendSchema
    else if eqb n 12 then ExtendScalar
    else if eqb n 13 then ExtendObject
    else if eqb n 14 then ExtendInterface
    else if eqb n 15 then ExtendUnion
    else if eqb n 16 then ExtendEnum
    else if eqb n 17 then ExtendInputObject
    else if eqb n 18 then Description
    else if eqb n 19 then Directive
    else if eqb n 20 then Argument
    else if eqb n 21 then VariableDefinition
    else if eqb n 22 then InputValueDefinition
    else if eqb n 23 then FieldDefinition
    else if eqb n 24 then EnumValueDefinition
    else if eqb n 25 then RootOperation
    else if eqb n 26 then InterfaceName
    else if eqb n 27 then UnionMember
    else if eqb n 28 then Location
    else if eqb n 29 then Field
    else if eqb n 30 then Alias
    else if eqb n 31 then FragmentSpread
    else if eqb n 32 then InlineFragment
    else if eqb n 33 then NamedType
    else if eqb n 34 then ListType
    else if eqb n 35 then Null
    else if eqb n 36 then Boolean
    else if eqb n 37 then EnumValue
    else if eqb n 38 then String
    else if eqb n 39 then Variable
    else if eqb n 40 then Float
    else if eqb n 41 then Int
    else if eqb n 42 then List
    else if eqb n 43 then ObjectValue
    else ObjectField

read_back : (k : Kind) → kind_of (kind_number k) ≡ k
read_back Document = refl
read_back Operation = refl
read_back Fragment = refl
read_back DirectiveDefinition = refl
read_back Schema = refl
read_back Scalar = refl
read_back Object = refl
read_back Interface = refl
read_back Union = refl
read_back Enum = refl
read_back InputObject = refl
read_back ExtendSchema = refl
read_back ExtendScalar = refl
read_back ExtendObject = refl
read_back ExtendInterface = refl
read_back ExtendUnion = refl
read_back ExtendEnum = refl
read_back ExtendInputObject = refl
read_back Description = refl
read_back Directive = refl
read_back Argument = refl
read_back VariableDefinition = refl
read_back InputValueDefinition = refl
read_back FieldDefinition = refl
read_back EnumValueDefinition = refl
read_back RootOperation = refl
read_back InterfaceName = refl
read_back UnionMember = refl
read_back Location = refl
read_back Field = refl
read_back Alias = refl
read_back FragmentSpread = refl
read_back InlineFragment = refl
read_back NamedType = refl
read_back ListType = refl
read_back Null = refl
read_back Boolean = refl
read_back EnumValue = refl
read_back String = refl
read_back Variable = refl
read_back Float = refl
read_back Int = refl
read_back List = refl
read_back ObjectValue = refl
read_back ObjectField = refl

pub one_kind : (j k : Kind) → kind_number j ≡ kind_number k → j ≡ k
one_kind j k e = sym (read_back j) ∙ ap kind_of e ∙ read_back k

pub kind_is_low : (k : Kind) → kind_number k < count
kind_is_low k = grind arith

-- a test for the same kind is one for the same number
pub same_kind : (j k : Kind) (b : Bool) → (b ≡ true → j ≡ k) → (b ≡ false → (j ≡ k → ⊥)) → b ≡ eqb (kind_number j) (kind_number k)
same_kind j k true y n = sym (eq-eqb (kind_number j) (kind_number k) (ap kind_number (y refl)))
same_kind j k false y n = sym (ne_eqb (kind_number j) (kind_number k) (λ e. n refl (one_kind j k e)))
