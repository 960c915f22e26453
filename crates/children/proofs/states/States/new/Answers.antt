-- The rows are those that are shown to be right, and each column is its kind's.
use Rattle.children.proofs.Table.{table, table_right}
use Rattle.children.proofs.states.States.new.Goals as goal

pub invariant_of-result : goal.invariant_of-result
unfolding table
invariant_of-result c = record {
  rows_right = table_right;
  columns_right = record { each = λ k l. let (kind, is, post) = c.by_kind.ensures k l in rw is at post.1 };
}
