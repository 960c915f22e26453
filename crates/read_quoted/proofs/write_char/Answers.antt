-- The library's bytes of a character are those of the definition, and an ASCII character's is itself.
use Rattle.std.proofs.Common.{◌∙◌, sym, ◌<◌, rules, tests}
use Rattle.pen.specs.Wrote.{wrote_as}
use Rattle.read_quoted.specs.Encodings.{in_one_byte}
use Rattle.read_quoted.proofs.Characters.{same_bytes}
use Rattle.read_quoted.proofs.write_char.Goals as goal

pub returns-then-is_ascii : goal.returns-then-is_ascii
returns-then-is_ascii c =
    let small : c.args.c < 0x80 = search (rules, tests) in
    wrote_as c.write_byte.ensures (sym (in_one_byte _ small))

pub returns-else-is_ascii : goal.returns-else-is_ascii
returns-else-is_ascii c =
    wrote_as c.write.ensures (c.as_bytes.ensures.value ∙ c.encode_utf8.ensures.value ∙ same_bytes _)
