-- The range is searched from the first node on, by a test that holds exactly at a fault.
use Rattle.std.proofs.Common.{rules, zero-le, ◌≡◌, true, false, ◌<◌, ◌≤◌, Bool, ℕ, MatchOption, Option, Some, None}
use Rattle.std.proofs.lemmas.Iterator.{first_from_Range}
use Rattle.meaning.specs.First.{first}
use Rattle.meaning.specs.Refusals.{node_fault}
use Rattle.meaning.specs.declared.NodeNumber.{NodeNumber}
use Rattle.table.specs.First.{found_or}
use Rattle.table_laws.specs.First.{first_hit, first_none}
use Rattle.nodes.proofs.first_node_fault.Goals as goal

place : (f : ℕ → Bool) (n : ℕ) (r : Option ℕ) (m : Option NodeNumber)
    → MatchOption r ((k : ℕ) → 0 ≤ k → k < n → f k ≡ false) (λ i. (0 ≤ i) × (i < n) × (f i ≡ true) × ((k : ℕ) → 0 ≤ k → k < i → f k ≡ false))
    → MatchOption r (m ≡ None) (λ i. m ≡ Some (record { 0 = i })) → found_or n m ≡ first f n
place f n None m none is = rw is (first_none (λ k l. none k zero-le l))
place f n (Some i) m (_, l, e, before) is = rw is (first_hit l (λ k l. before k zero-le l) e)

pub returns-clause-place : goal.returns-clause-place
returns-clause-place c =
    let f : ℕ → Bool = node_fault c.args.table.now.words.now c.args.table.now.pool.now in
    let found = first_from_Range _ _ _ c.find.result (λ i. f i ≡ true) (λ i. f i ≡ false) c.find.ensures.ran (λ x q e. search rules) (λ x q e. search rules) in
    place f c.args.n c.find.result c.map.result found (search rules)
