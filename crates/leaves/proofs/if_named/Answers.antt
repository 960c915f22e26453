-- `leaves::if_named` meets its contract: nothing where the node has no text.
use Rattle.std.proofs.Common.{sym, ◌++◌, ◌∷◌, []}
use Rattle.meaning.specs.Rules.{text}
use Rattle.pen.specs.Wrote.{wrote_as}
use Rattle.layout.specs.Did.{◌⨾◌, did_tokens, did_name, no_text_lem, a_text, plain_and_name_close}
use Rattle.leaves.specs.Leaves.{no_text_there, text_there}
use Rattle.leaves.proofs.if_named.Goals as goal

pub returns-then-length-ne0 : goal.returns-then-length-ne0
returns-then-length-ne0 c = λ s at ps z b.
    a_text (ps ++ text ∷ [])
    (text_there _ _ _ c.requires c.length.ensures.is c.if-length-ne0.true)
    (did_tokens ps z (wrote_as c.write.ensures (sym b)) ⨾ did_name c.name.ensures)

pub returns-else-length-ne0 : goal.returns-else-length-ne0
returns-else-length-ne0 c = λ s at ps z b.
    no_text_lem (ps ++ text ∷ []) (plain_and_name_close ps z) (no_text_there _ _ _ c.length.ensures.is c.if-length-ne0.false)
