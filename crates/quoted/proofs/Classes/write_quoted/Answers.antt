-- A quote, the body, a quote.
use Rattle.meaning.specs.Quoted.{quoted}
use Rattle.pen.specs.Wrote.{◌⨾◌}
use Rattle.quoted.proofs.Classes.write_quoted.Goals as goal

pub returns : goal.returns
unfolding quoted
returns c = c.write_byte.ensures ⨾ c.write_body.ensures ⨾ c.write_byte-2.ensures
