-- What refusal 6 leaves of list types: the node after one stands inside it and is a type.
use Rattle.std.specs.Prelude.{◌≡◌, true, List, ℕ, ◌+◌, ◌<◌}
use Rattle.meaning.specs.Kind
use Rattle.meaning.specs.Table.{nodes, kind_at, variant_at, end_at}
use Rattle.meaning.specs.Children.{type, is_in}

pub record ListsHoldTypes (w : List ℕ) : Type 0 where
  pub inside : (i : ℕ) → i < nodes w → kind_at w i ≡ Kind.list_type → i + 1 < end_at w i
  pub is_type : (i : ℕ) → i < nodes w → kind_at w i ≡ Kind.list_type → is_in type (kind_at w (i + 1)) (variant_at w (i + 1)) ≡ true
