-- Document 01: "Pool bytes that no node names never matter: equal-length pools agreeing on all named ranges give equal answers." The
-- faults look at the pool's length and at the texts of the nodes, and at nothing else of it.
use Prim.Native.Nat.{ℕ, zero, suc, ◌<◌}
use Rattle.std.specs.Prelude.{◌≡◌, Bool, List, length}
use Rattle.std.proofs.Math.Path.{refl}
use Rattle.std.proofs.Common.{arith}
use Rattle.meaning.specs.First.{first}
use Rattle.meaning.specs.Table.{nodes, text_at}
use Rattle.meaning.specs.Refusals.{size_fault, node_fault, text_fault, has_fault, lowest_from, verdict}
use Rattle.meaning.specs.Settings.{Settings}
use Rattle.meaning.specs.Entries.{checked_table, checked_document}

-- tests that agree below n have one first
pub first_same : (f g : ℕ → Bool) (n : ℕ) → ((k : ℕ) → k < n → f k ≡ g k) → first f n ≡ first g n
unfolding first
first_same f g zero h = refl
first_same f g (suc n) h = rw (first_same f g n (λ k l. h k (omega arith)), h n (omega arith))

module _ (w p q : List ℕ) (size : length p ≡ length q) (named : (i : ℕ) → i < nodes w → text_at w p i ≡ text_at w q i) where
  same_node : (i : ℕ) → node_fault w p i ≡ node_fault w q i
  unfolding node_fault
  same_node i = rw size

  same_text_lem : (i : ℕ) → i < nodes w → text_fault w p i ≡ text_fault w q i
  unfolding text_fault
  same_text_lem i h = rw (named i h)

  same_fault : (m i : ℕ) → i < nodes w → has_fault w p m i ≡ has_fault w q m i
  unfolding has_fault
  same_fault m i h = rw (same_node i, same_text_lem i h)

  same_lowest : (n m : ℕ) → lowest_from n m w p ≡ lowest_from n m w q
  unfolding lowest_from
  same_lowest zero m = refl
  same_lowest (suc n) m = rw (first_same (has_fault w p m) (has_fault w q m) (nodes w) (same_fault m), same_lowest n (suc m))

  pub pool_bytes_never_matter : verdict w p ≡ verdict w q
  unfolding verdict
  pool_bytes_never_matter = rw (same_size, same_lowest 5 3)
    where
      same_size : size_fault w p ≡ size_fault w q
      same_size = unfold size_fault in rw size

  pub checked_alike : checked_table w p ≡ checked_table w q
  unfolding checked_table
  checked_alike = rw pool_bytes_never_matter

  pub document_checked_alike : (s : Settings) → checked_document s w p ≡ checked_document s w q
  unfolding checked_document
  document_checked_alike s = rw checked_alike
