-- `definitions::serialize_definition` meets its contract: the selections alone, or the parts of the kind's rule.
use Rattle.std.proofs.Common.{arith, sym, ◌∙◌, ◌≡◌, ◌&&◌, false, inl, inr}
use Rattle.base.specs.Bools.{and_both}
use Rattle.meaning.specs.Table.{end_at}
use Rattle.layout.specs.Jobs.{in_table, children_jobs}
use Rattle.layout.specs.Read.{words}
use Rattle.serialize.specs.Parts.{parts_of_lem}
use Rattle.definitions.specs.Short.{no_shorthand, long_definition, short_definition}
use Rattle.definitions.specs.Segments.{short_at}
use Rattle.definitions.proofs.serialize_definition.Goals.{else-first-via-then-first+else-is_short, else-first-via-else-first}
use Rattle.definitions.proofs.serialize_definition.Goals as goal

pub curly-requires : goal.curly-requires
curly-requires c = children_jobs c.args.printer.now.shaped c.requires.job c.of-children.ensures

pub kind-kind-requires : goal.kind-kind-requires
kind-kind-requires c = (in_table c.args.printer.now.shaped c.requires.job.inside, omega (arith, c.requires.high))

pub of-children-requires : goal.of-children-requires
of-children-requires c = in_table c.args.printer.now.shaped c.requires.job.inside

pub serialize_kind-requires-clause-parts : goal.serialize_kind-requires-clause-parts
serialize_kind-requires-clause-parts c = parts_of_lem c.args.printer.now.shaped c.requires.job c.of-children.ensures

pub returns-then-is_short : goal.returns-then-is_short
returns-then-is_short c =
    short_definition c.args.printer.now.shaped c.requires.job.inside _ c.of-children.ensures _
    (and_both _ _ c.if-first.true (sym c.is_short.ensures ∙ c.if-is_short.true)) c.curly.ensures

pub returns-else-first : goal.returns-else-first
returns-else-first c =
    let long : c.args.first && short_at (words c.args.printer.now) c.args.node.0 (end_at (words c.args.printer.now) c.args.node.0) ≡ false =
    elim c.else-first.branch [
      | else-first-via-then-first+else-is_short w ↦ no_shorthand _ _ (inr (sym w.is_short.ensures ∙ w.if-is_short.false))
      | else-first-via-else-first w ↦ no_shorthand _ _ (inl w.if-first.false)
    ]
    in long_definition c.args.printer.now.shaped c.requires.job.inside _ c.of-children.ensures _ long c.kind-kind.ensures c.serialize_kind.ensures
