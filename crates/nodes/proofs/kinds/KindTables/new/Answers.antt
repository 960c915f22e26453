-- Each entry is what its kind allows.
use Rattle.std.proofs.Common.{rules, ◌≡◌, slice_index}
use Rattle.meaning.specs.KindNumbers.{kind_number}
use Rattle.nodes.specs.Kinds.{textless}
use Rattle.nodes.proofs.kinds.KindTables.new.Goals as goal

pub invariant_of-result : goal.invariant_of-result
invariant_of-result c = record {
  variants_right = record { each = λ k l. let (kind, is, post) = c.by_kind.ensures k l in rw is at post.1 };
  textless_right = record {
    each = λ k l.
        let (kind, is, post) = c.by_kind-2.ensures k l in
        let at_kind : slice_index c.by_kind-2.result k ≡ textless (kind_number kind) = search rules in
        rw is at at_kind;
  };
}
