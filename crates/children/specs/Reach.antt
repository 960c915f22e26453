-- How far constant nodes reach: one number, kept from node to node.
use Rattle.std.specs.Prelude.{ℕ, Bool, ◌&&◌, List, ltb, if◌then◌else◌}
use Rattle.meaning.specs.First.{some}
use Rattle.meaning.specs.Table.{kind_at}
use Rattle.meaning.specs.Refusals.{is_constant, is_above}

-- a constant node is above node i
unfoldable pub in_constant : List ℕ → ℕ → Bool
unfolding kind_at is_above some
in_constant w i = some (λ k. is_constant (kind_at w k) && is_above w i k) i

-- the furthest end of a constant node, once a node of this kind and end is passed too
unfoldable pub furthest : ℕ → ℕ → ℕ → ℕ
furthest reach kind end = if is_constant kind && ltb reach end then end else reach
