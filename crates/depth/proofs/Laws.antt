-- The nodes above node i are those before it that end at i or later, less those that end at i; both numbers are kept from node to node.
use Rattle.std.proofs.Common.{◌≡◌, refl, ◌∙◌, ap, sym, not-suc-le-zero, add-one, if◌then◌else◌, ⊎_elim, Bool, true, false, List, ltb, length, set, ◌&&◌, ℕ, zero, suc, ◌+◌, ◌-◌, ◌≤◌, ◌<◌, zero-le, le_trans, le_refl, le_of_eq, eq-or-lt_of_le, arith, leb, eqb, get_or, length-set, get_or-set_same, get_or-set_other, lt-ltb, le-ltb, le-leb, eq-eqb, ne_eqb, eqb-true, below_more}
use Rattle.std.proofs.Math.Decide.{dec_le}
use Rattle.std.proofs.lemmas.Bool.{lt-leb, eqb-false}
use Rattle.meaning.specs.First.{first, count}
use Rattle.meaning.specs.Table.{end_at}
use Rattle.meaning.specs.Refusals.{is_above, depth_at, deepest, depth_fault}
use Rattle.table_laws.specs.First.{first_hit}
use Rattle.depth.specs.Ends.{ProperEnds, NoneClosed}

-- ---- counting

abbrev one : Bool → ℕ
one true = 1
one false = 0

one_le : (b : Bool) → one b ≤ 1
one_le true = le_refl 1
one_le false = zero-le

count_more : (f : ℕ → Bool) (n : ℕ) → count f (suc n) ≡ count f n + one (f n)
unfolding count
count_more f n = go (f n)
  where
    go : (b : Bool) → (if b then suc (count f n) else count f n) ≡ count f n + one b
    go true = omega arith
    go false = omega arith

count_le : (f : ℕ → Bool) (n : ℕ) → count f n ≤ n
count_le f zero = unfold count in zero-le
count_le f (suc n) = omega (arith, count_more f n, count_le f n, one_le (f n))

count_same : (f g : ℕ → Bool) (n : ℕ) → ((k : ℕ) → k < n → f k ≡ g k) → count f n ≡ count g n
count_same f g zero e = unfold count in refl
count_same f g (suc n) e =
    omega (arith, count_more f n, count_more g n, count_same f g n (λ k l. e k (omega arith)), ap one (e n (le_refl (suc n))))

count_split : (f g h : ℕ → Bool) (n : ℕ) → ((k : ℕ) → k < n → one (f k) ≡ one (g k) + one (h k)) → count f n ≡ count g n + count h n
count_split f g h zero e = unfold count in refl
count_split f g h (suc n) e =
    omega (arith, count_more f n, count_more g n, count_more h n, count_split f g h n (λ k l. e k (omega arith)), e n (le_refl (suc n)))

-- ---- open nodes

-- a node before i that ends at i or later ends there, or is above i
open_or_above : (w : List ℕ) (i k : ℕ) → k < i → one (leb i (end_at w k)) ≡ one (eqb i (end_at w k)) + one (is_above w i k)
unfolding is_above
open_or_above w i k l = go (end_at w k) (dec_le i (end_at w k))
  where
    go : (x : ℕ) → Dec (i ≤ x) → one (leb i x) ≡ one (eqb i x) + one (ltb k i && ltb i x)
    go x (no h) = rw (lt-leb i x (omega arith), ne_eqb i x (omega arith), lt-ltb k i l, le-ltb i x (omega arith))
    go x (yes h) =
        ⊎_elim
        (λ (e : i ≡ x). rw (le-leb i x h, eq-eqb i x e, lt-ltb k i l, le-ltb i x (le_of_eq (sym e))))
        (λ (g : i < x). rw (le-leb i x h, ne_eqb i x (omega arith), lt-ltb k i l, lt-ltb i x g))
        (eq-or-lt_of_le h)

-- a node above i is one that is open still at the next
above_is_open : (w : List ℕ) (i k : ℕ) → k < i → is_above w i k ≡ leb (suc i) (end_at w k)
unfolding is_above
above_is_open w i k l = rw (lt-ltb k i l)

-- what the scan knows when it comes to node i: how many nodes before it end at i or later, and how many at each place
pub record Scanned (w : List ℕ) (n size : ℕ) (closes : List ℕ) (depth i : ℕ) : Type 0 where
  pub low : i ≤ n
  pub same : length closes ≡ size
  pub held : depth ≡ count (λ k. leb i (end_at w k)) i
  pub closed : (m : ℕ) → m ≤ n → get_or closes m 0 ≡ count (λ k. eqb m (end_at w k)) i
  pub shallow : (k : ℕ) → k < i → depth_fault w k ≡ false

pub scan_begins : {w closes : List ℕ} {n size : ℕ} → length closes ≡ size → NoneClosed n closes → Scanned w n size closes 0 0
unfolding count
scan_begins e z = record { low = zero-le; same = e; held = refl; closed = z.zeros; shallow = λ k l. absurd (not-suc-le-zero l) }

module _ {w : List ℕ} {n size : ℕ} {closes : List ℕ} {depth i : ℕ} (p : Scanned w n size closes depth i) where
  pub depth_here : depth ≡ get_or closes i 0 + depth_at w i
  unfolding depth_at
  depth_here =
      p.held
      ∙ count_split (λ k. leb i (end_at w k)) (λ k. eqb i (end_at w k)) (is_above w i) i (open_or_above w i)
      ∙ ap (λ (x : ℕ). x + count (is_above w i) i) (sym (p.closed i p.low))

  pub depth_le : depth ≤ i
  depth_le = le_trans (le_of_eq p.held) (count_le (λ k. leb i (end_at w k)) i)

  pub closed_le : (m : ℕ) → m ≤ n → get_or closes m 0 ≤ i
  closed_le m h = le_trans (le_of_eq (p.closed m h)) (count_le (λ k. eqb m (end_at w k)) i)

  -- node i comes to it: it is open from there on, and closes at its end
  module _ (t : ProperEnds w n) (l : i < n) (big : n < size) where
    held_more : depth - get_or closes i 0 + 1 ≡ count (λ k. leb (i + 1) (end_at w k)) (i + 1)
    unfolding depth_at
    held_more =
        rw (add-one i)
        (omega (
          arith,
          depth_here,
          count_more (λ k. leb (suc i) (end_at w k)) i,
          count_same (is_above w i) (λ k. leb (suc i) (end_at w k)) i (above_is_open w i),
          ap one (le-leb (suc i) (end_at w i) (t.after i l)),
        ))

    closed_more : (m : ℕ) → m ≤ n → get_or (set closes (end_at w i) (get_or closes (end_at w i) 0 + 1)) m 0 ≡ count (λ k. eqb m (end_at w k)) (i + 1)
    closed_more m h = rw (add-one i, count_more (λ k. eqb m (end_at w k)) i) (go (eqb m (end_at w i)) refl)
      where
        go : (b : Bool) → eqb m (end_at w i) ≡ b
            → get_or (set closes (end_at w i) (get_or closes (end_at w i) 0 + 1)) m 0 ≡ count (λ k. eqb m (end_at w k)) i + one b
        go true q =
            let s = eqb-true m (end_at w i) q in
            rw (← s, get_or-set_same closes m (get_or closes m 0 + 1) 0 (omega (arith, p.same)), p.closed m h)
        go false q =
            rw (get_or-set_other closes (end_at w i) m (get_or closes (end_at w i) 0 + 1) 0 (eqb-false m (end_at w i) q), p.closed m h) (omega arith)

    pub scan_more : depth_at w i ≤ deepest
        → Scanned w n size (set closes (end_at w i) (get_or closes (end_at w i) 0 + 1)) (depth - get_or closes i 0 + 1) (i + 1)
    unfolding depth_fault
    scan_more d = record {
      low = omega arith;
      same = length-set closes _ _ ∙ p.same;
      held = held_more;
      closed = closed_more;
      shallow = below_more _ i p.shallow (le-ltb deepest (depth_at w i) d);
    }

  pub too_deep_lem : i < n → deepest < depth_at w i → i ≡ first (depth_fault w) n
  unfolding depth_fault
  too_deep_lem l d = first_hit l p.shallow (lt-ltb deepest (depth_at w i) d)
