-- `definitions::is_short` meets its contract: each test tells.
use Rattle.std.proofs.Common.{rules}
use Rattle.meaning.specs.declared.kind.Kind.TheVariants.{Operation}
use Rattle.table.specs.Kinds.{same_kind}
use Rattle.layout.specs.Jobs.{in_table, within, own_children}
use Rattle.definitions.specs.Short.{short_told}
use Rattle.definitions.proofs.is_short.Goals as goal

pub variant-query-requires : goal.variant-query-requires
variant-query-requires c = in_table c.args.printer.now.shaped c.requires.inside

pub length-unnamed-requires : goal.length-unnamed-requires
length-unnamed-requires c = in_table c.args.printer.now.shaped c.requires.inside

pub is_next-requires : goal.is_next-requires
is_next-requires c = within c.args.printer.now.shaped (own_children c.args.printer.now.shaped c.requires.inside c.requires.own)

pub returns : goal.returns
returns c =
    let told = same_kind c.args.kind Operation c.eq-operation.result (λ e. search rules) (λ e. search rules) in
    short_told c.requires.own told c.requires.kind c.variant-query.ensures.is c.length-unnamed.ensures.is c.is_next.ensures
