-- `Children::is_next` meets its contract: no child is next, or its kind tells.
use Rattle.std.proofs.Common.{sym, ◌∙◌, le-ltb}
use Rattle.layout.specs.Jobs.{within_node}
use Rattle.layout.specs.Kids.{next_none, kind_tells_next}
use Rattle.layout.proofs.Children.is_next.Goals as goal

pub kind_number-requires : goal.kind_number-requires
kind_number-requires c = within_node c.requires c.if-self.true

pub returns-then-self : goal.returns-then-self
returns-then-self c = kind_tells_next _ _ _ _ _ _ c.if-self.true c.kind_number.ensures c.holds.ensures

pub returns-else-self : goal.returns-else-self
returns-else-self c = le-ltb _ _ c.if-self.false ∙ sym (next_none _ _ c.if-self.false)
