-- A Variable in a constant place: one number, the furthest end of a constant node passed, says it for every later node.
use Rattle.std.proofs.Common.{ℕ, ◌+◌, ◌≤◌, ◌<◌, ◌≡◌, refl, ◌∙◌, sym, not-suc-le-zero, lt-ltb, le-ltb, Bool, true, ◌&&◌, false, List, ltb, eqb, le_trans, le_refl, arith, below_more}
use Rattle.std.proofs.Math.Decide.{dec_le}
use Rattle.base.specs.Bools.{clash, and_false}
use Rattle.meaning.specs.Kind
use Rattle.meaning.specs.Table.{kind_at, end_at}
use Rattle.meaning.specs.Refusals.{is_constant, is_above, not_as_listed, children_fault}
use Rattle.table_laws.specs.First.{some_yes, some_no}
use Rattle.children.specs.Reach.{in_constant, furthest}

-- of the nodes before i, no constant one ends after `reach`, and one ends there
pub record Reach (w : List ℕ) (i reach : ℕ) : Type 0 where
  pub upper : (k : ℕ) → k < i → is_constant (kind_at w k) ≡ true → end_at w k ≤ reach
  pub reached : 0 < reach → (k : ℕ) × (k < i) × (is_constant (kind_at w k) ≡ true) × (end_at w k ≡ reach)

pub reach_none : (w : List ℕ) → Reach w 0 0
reach_none w = record { upper = λ k l e. absurd (not-suc-le-zero l); reached = λ l. absurd (not-suc-le-zero l) }

module _ (w : List ℕ) (i reach : ℕ) (r : Reach w i reach) where
  -- a node is in a constant place exactly if it stands before the reach
  pub in_constant_lem : in_constant w i ≡ ltb i reach
  unfolding in_constant is_above
  in_constant_lem = go (dec_le reach i)
    where
      test : ℕ → Bool
      test k = is_constant (kind_at w k) && is_above w i k

      off : reach ≤ i → (k : ℕ) → k < i → (b : Bool) → is_constant (kind_at w k) ≡ b → test k ≡ false
      off h k l true e = rw (e, le-ltb i (end_at w k) (le_trans (r.upper k l e) h), and_false (ltb k i))
      off h k l false e = rw e

      go : Dec (reach ≤ i) → in_constant w i ≡ ltb i reach
      go (yes h) = some_no test (λ k l. off h k l (is_constant (kind_at w k)) refl) ∙ sym (le-ltb i reach h)
      go (no h) =
          let (k, l, c, e) = r.reached (omega arith) in
          some_yes test k l (rw (c, lt-ltb k i l, lt-ltb i (end_at w k) (omega arith))) ∙ sym (lt-ltb i reach (omega arith))

  pub reach_more : Reach w (i + 1) (furthest reach (kind_at w i) (end_at w i))
  unfolding furthest
  reach_more = go (is_constant (kind_at w i)) refl (dec_le (end_at w i) reach)
    where
      kept : (is_constant (kind_at w i) ≡ true → end_at w i ≤ reach) → Reach w (i + 1) reach
      kept h = record {
        upper = below_more (λ k. is_constant (kind_at w k) ≡ true → end_at w k ≤ reach) i r.upper h;
        reached = λ p. let (k, l, c, e) = r.reached p in (k, omega arith, c, e);
      }

      grown : is_constant (kind_at w i) ≡ true → reach < end_at w i → Reach w (i + 1) (end_at w i)
      grown e l = record {
        upper =
            below_more (λ k. is_constant (kind_at w k) ≡ true → end_at w k ≤ end_at w i) i
            (λ k h c. le_trans (r.upper k h c) (omega arith))
            (λ _. le_refl (end_at w i));
        reached = λ _. (i, omega arith, e, refl);
      }

      go : (b : Bool) → is_constant (kind_at w i) ≡ b → Dec (end_at w i ≤ reach) → Reach w (i + 1) (furthest reach (kind_at w i) (end_at w i))
      go true e (yes l) = rw (e, le-ltb reach (end_at w i) l) (kept (λ _. l))
      go true e (no l) = let h : reach < end_at w i = omega arith in rw (e, lt-ltb reach (end_at w i) h) (grown e h)
      go false e d = rw e (kept (λ q. clash q e))

-- refusal 6 of a node whose children are as listed
pub listed_fault : (w : List ℕ) (i k : ℕ) → k ≡ kind_at w i → not_as_listed w i ≡ false → eqb k Kind.variable && in_constant w i ≡ children_fault w i
unfolding children_fault in_constant
listed_fault w i k e h = rw (h, e)
