-- Document 01, "The node table": the 45 kinds by name.
use Rattle.std.specs.Prelude.{ℕ}

abbrev pub document : ℕ
document = 0

abbrev pub operation : ℕ
operation = 1

abbrev pub fragment : ℕ
fragment = 2

abbrev pub directive_definition : ℕ
directive_definition = 3

abbrev pub schema : ℕ
schema = 4

abbrev pub scalar : ℕ
scalar = 5

abbrev pub object : ℕ
object = 6

abbrev pub interface : ℕ
interface = 7

abbrev pub union : ℕ
union = 8

abbrev pub enum : ℕ
enum = 9

abbrev pub input_object : ℕ
input_object = 10

abbrev pub extend_schema : ℕ
extend_schema = 11

abbrev pub extend_scalar : ℕ
extend_scalar = 12

abbrev pub extend_object : ℕ
extend_object = 13

abbrev pub extend_interface : ℕ
extend_interface = 14

abbrev pub extend_union : ℕ
extend_union = 15

abbrev pub extend_enum : ℕ
extend_enum = 16

abbrev pub extend_input_object : ℕ
extend_input_object = 17

abbrev pub description : ℕ
description = 18

abbrev pub directive : ℕ
directive = 19

abbrev pub argument : ℕ
argument = 20

abbrev pub variable_definition : ℕ
variable_definition = 21

abbrev pub input_value_definition : ℕ
input_value_definition = 22

abbrev pub field_definition : ℕ
field_definition = 23

abbrev pub enum_value_definition : ℕ
enum_value_definition = 24

abbrev pub root_operation : ℕ
root_operation = 25

abbrev pub interface_name : ℕ
interface_name = 26

abbrev pub union_member : ℕ
union_member = 27

abbrev pub location : ℕ
location = 28

abbrev pub field : ℕ
field = 29

abbrev pub alias : ℕ
alias = 30

abbrev pub fragment_spread : ℕ
fragment_spread = 31

abbrev pub inline_fragment : ℕ
inline_fragment = 32

abbrev pub named_type : ℕ
named_type = 33

abbrev pub list_type : ℕ
list_type = 34

abbrev pub null : ℕ
null = 35

abbrev pub boolean : ℕ
boolean = 36

abbrev pub enum_value : ℕ
enum_value = 37

abbrev pub string : ℕ
string = 38

abbrev pub variable : ℕ
variable = 39

abbrev pub float : ℕ
float = 40

abbrev pub int : ℕ
int = 41

abbrev pub list : ℕ
list = 42

abbrev pub object_value : ℕ
object_value = 43

abbrev pub object_field : ℕ
object_field = 44

-- how many kinds there are
abbrev pub count : ℕ
count = 45
