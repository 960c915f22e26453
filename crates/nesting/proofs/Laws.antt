-- A node has the fault exactly if the next node that ends later lies in its subtree. The links that lead there are kept from node to node.
use Rattle.std.proofs.Common.{◌≡◌, ◌∙◌, refl, true, List, length, set, subst, length-set, ⊎_elim, false, ◌&&◌, ℕ, suc, ◌+◌, ◌≤◌, ◌<◌, le_refl, le_trans, lt_irrefl, eq-or-lt_of_le, arith, ltb, get_or, get_or-set_same, get_or-set_other, lt-ltb, le-ltb}
use Rattle.std.proofs.Math.Decide.{dec_le}
use Rattle.meaning.specs.Table.{end_at}
use Rattle.meaning.specs.Refusals.{nesting_fault}
use Rattle.table_laws.specs.First.{some_yes, some_no, FirstFrom, from_end, from_hit, from_miss}
use Rattle.nesting.specs.Links.{Passes, EndsLater, Linked}

module _ {w : List ℕ} {n : ℕ} where
  pub passes_none : {i : ℕ} → i < n → Passes w n i (i + 1)
  passes_none l = record { after = omega arith; within = omega arith; clear = λ m a b. omega arith }

  -- what the link of a node passes ends no later than it, and so no later than i
  pub passes_on : {i j s : ℕ} → Passes w n i j → end_at w j ≤ end_at w i → Passes w n j s → Passes w n i s
  passes_on {i} {j} {s} p h q = record { after = omega arith; within = q.within; clear = λ m a b. go m a b (dec_le j m) }
    where
      go : (m : ℕ) → i < m → m < s → Dec (j ≤ m) → end_at w m ≤ end_at w i
      go m a b (no g) = p.clear m a (omega arith)
      go m a b (yes g) =
          ⊎_elim (λ (e : j ≡ m). subst (λ (x : ℕ). end_at w x ≤ end_at w i) e h) (λ (l : j < m). le_trans (q.clear m l b) h) (eq-or-lt_of_le g)

  -- the next node that ends later lies in the subtree
  pub outlasted : {i s : ℕ} → EndsLater w n i s → end_at w i ≤ n → s < end_at w i → nesting_fault w i ≡ true
  unfolding nesting_fault
  outlasted {i} {s} p e l =
      some_yes (λ j. ltb i j && ltb (end_at w i) (end_at w j)) s l (rw (lt-ltb _ _ p.passes.after, lt-ltb _ _ (p.later (omega arith))))

  -- it lies behind the subtree
  pub not_outlasted : {i s : ℕ} → Passes w n i s → end_at w i ≤ s → nesting_fault w i ≡ false
  unfolding nesting_fault
  not_outlasted {i} {s} p h = some_no (λ j. ltb i j && ltb (end_at w i) (end_at w j)) (λ k l. go k l (dec_le k i))
    where
      go : (k : ℕ) → k < end_at w i → Dec (k ≤ i) → ltb i k && ltb (end_at w i) (end_at w k) ≡ false
      go k l (yes g) = rw (le-ltb _ _ g)
      go k l (no g) = let a : i < k = omega arith in rw (lt-ltb _ _ a, le-ltb _ _ (p.clear k a (omega arith)))

-- what the scan knows when it has come down to i
pub record Scanned (w : List ℕ) (n size : ℕ) (links : List ℕ) (smallest i : ℕ) : Type 0 where
  pub low : i ≤ n
  pub same : length links ≡ size
  pub linked : Linked w n i links
  pub from : FirstFrom (nesting_fault w) i n smallest

pub scan_begins : {w links : List ℕ} {n : ℕ} → n ≤ length links → Scanned w n (length links) links n n
scan_begins {n = n} h = record {
  low = le_refl n;
  same = refl;
  linked = record { size = h; each = λ k a b. absurd (lt_irrefl k (le_trans b a)) };
  from = from_end;
}

-- node i comes to it, with its link
module _
    {w : List ℕ} {n size : ℕ} {links : List ℕ} {smallest i' i s : ℕ}
    (e : i' ≡ suc i) (p : Scanned w n size links smallest i') (q : EndsLater w n i s)
  where
    linked_more : Linked w n i (set links i s)
    linked_more = record { size = rw length-set p.linked.size; each = λ k a b. ⊎_elim (here k) (there k b) (eq-or-lt_of_le a) }
      where
        here : (k : ℕ) → i ≡ k → EndsLater w n k (get_or (set links i s) k 0)
        here k g =
            subst (λ (x : ℕ). EndsLater w n x (get_or (set links i s) x 0)) g (rw (get_or-set_same links i s 0 (omega (arith, p.linked.size, p.low))) q)

        there : (k : ℕ) → k < n → i < k → EndsLater w n k (get_or (set links i s) k 0)
        there k b g = rw (get_or-set_other links i k s 0 (omega arith)) (p.linked.each k (omega arith) b)

    pub scan_hit : {place : ℕ} → place ≡ i → end_at w i ≤ n → s < end_at w i → Scanned w n size (set links i s) place i
    scan_hit g h l = record {
      low = omega (arith, p.low);
      same = length-set links i s ∙ p.same;
      linked = linked_more;
      from = rw g (from_hit (omega (arith, p.low)) (outlasted q h l));
    }

    pub scan_miss : end_at w i ≤ s → Scanned w n size (set links i s) smallest i
    scan_miss l = record {
      low = omega (arith, p.low);
      same = length-set links i s ∙ p.same;
      linked = linked_more;
      from = from_miss (not_outlasted q.passes l) (subst (λ (x : ℕ). FirstFrom (nesting_fault w) x n smallest) e p.from);
    }
