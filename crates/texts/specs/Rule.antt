-- The code's text rules are those of document 01's table of kinds.
use Rattle.std.specs.Prelude.{ℕ}
use Rattle.meaning.specs.Children.{TextRule, no_text, name, name_or_empty, fragment_name, enum_name, float, int, any_text}
use Rattle.texts.specs.declared.rule.Rule.{Rule}
use Rattle.texts.specs.declared.rule.Rule.TheVariants.{NoText, Name, NameOrEmpty, FragmentName, EnumName, Float, Int, AnyText}

abbrev pub meant : Rule → TextRule
meant NoText = no_text
meant Name = name
meant NameOrEmpty = name_or_empty
meant FragmentName = fragment_name
meant EnumName = enum_name
meant Float = float
meant Int = int
meant AnyText = any_text

-- the last byte that a name may begin with so that it is none of the words that the rule forbids; 0 where no name is asked for
abbrev pub highest : TextRule → ℕ
highest no_text = 0xFF
highest name = 0xFF
highest name_or_empty = 0xFF
highest fragment_name = 0x6E
highest enum_name = 0x5F
highest float = 0
highest int = 0
highest any_text = 0
