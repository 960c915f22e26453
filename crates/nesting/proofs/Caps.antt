-- No node crosses the end of another where each ends within its cap: the cap of a node is at most the end of every node that is open there.
-- A cap that is kept for a later place is that of a node that ends there, and a node which crosses that end is found at once.
use Rattle.std.proofs.Common.{◌≡◌, ◌∙◌, refl, false, List, ltb, length, set, sym, ap, arith, length-set, lt-ltb, le-ltb, ◌&&◌, ℕ, ◌+◌, ◌≤◌, ◌<◌, max, le_trans, get_or, get_or-set_same, get_or-set_other}
use Rattle.std.proofs.Math.Nat.{max-le}
use Rattle.std.proofs.Math.Decide.{dec_le, dec_lt, ℕ_discrete}
use Rattle.meaning.specs.Table.{end_at}
use Rattle.meaning.specs.Refusals.{nesting_fault}
use Rattle.table_laws.specs.First.{some_no}
use Rattle.nesting.specs.Links.{NoCaps}

-- what is known when the nodes before i are passed
pub record Capped (w : List ℕ) (n size : ℕ) (caps : List ℕ) (cap i : ℕ) : Type 0 where
  pub low : i ≤ n
  pub same : length caps ≡ size
  -- the cap of node i, and those kept for later places, are within every node that is open there
  pub next : (k : ℕ) → k < i → i < end_at w k → cap ≤ end_at w k
  pub later : (k j : ℕ) → k < i → i < j → j ≤ n → j < end_at w k → get_or caps j 0 ≤ end_at w k
  -- a cap that is kept is of a place where a node ends
  pub ends : (j : ℕ) → i < j → j ≤ n → 0 < get_or caps j 0 → (m : ℕ) × (m < i) × (end_at w m ≡ j)
  pub nested : (k j : ℕ) → k < j → j < i → j < end_at w k → end_at w j ≤ end_at w k

pub none_capped : {w caps : List ℕ} {n cap : ℕ} → NoCaps n caps → Capped w n (length caps) caps cap 0
none_capped z = record {
  low = omega arith;
  same = refl;
  next = λ k l h. absurd (omega arith);
  later = λ k j l h u v. absurd (omega arith);
  ends = λ j l u p. absurd (omega (arith, z.none j u));
  nested = λ k j l h u. absurd (omega arith);
}

module _
    {w : List ℕ} {n size : ℕ} {caps : List ℕ} {cap i e v cap' : ℕ}
    (p : Capped w n size caps cap i) (l : i < n) (is : e ≡ end_at w i) (room : e < length caps) (within : e ≤ cap)
    (new : v ≡ max (get_or caps e 0) cap) (onward : cap' ≡ max (get_or (set caps e v) (i + 1) 0) e)
  where
    -- a cap that is kept for a place in node i would be of a node that it crosses
    none_inside : (j : ℕ) → i < j → j ≤ n → j < e → get_or caps j 0 ≤ e
    none_inside j a u b = go (dec_le (get_or caps j 0) 0)
      where
        go : Dec (get_or caps j 0 ≤ 0) → get_or caps j 0 ≤ e
        go (yes z) = omega arith
        go (no z) =
            let (m, before, ends_there) = p.ends j a u (omega arith) in
            absurd (omega (arith, p.next m before (omega (arith, ends_there)), ends_there))

    open_at : (k : ℕ) → k < i → i < end_at w k → e ≤ end_at w k
    open_at k a b = le_trans within (p.next k a b)

    kept : (k j : ℕ) → k < i + 1 → i < j → j ≤ n → j < end_at w k → get_or (set caps e v) j 0 ≤ end_at w k
    kept k j a b u c = go (ℕ_discrete j e) (dec_lt k i)
      where
        go : Dec (j ≡ e) → Dec (k < i) → get_or (set caps e v) j 0 ≤ end_at w k
        go (yes q) (yes d) =
            rw (q, get_or-set_same caps e v 0 room, new) (max-le (p.later k e d (omega arith) (omega arith) (omega arith)) (p.next k d (omega arith)))
        go (yes q) (no d) = let z : k ≡ i = omega arith in absurd (omega (arith, ap (end_at w) z))
        go (no q) (yes d) = rw (get_or-set_other caps e j v 0 q) (p.later k j d b u c)
        go (no q) (no d) =
            let z : k ≡ i = omega arith in
            let y = ap (end_at w) z in
            rw (get_or-set_other caps e j v 0 q) (omega (arith, y, none_inside j b u (omega (arith, y))))

    ends_within : (k : ℕ) → k < i + 1 → i < end_at w k → e ≤ end_at w k
    ends_within k a b = go (dec_lt k i)
      where
        go : Dec (k < i) → e ≤ end_at w k
        go (yes d) = open_at k d b
        go (no d) = let z : k ≡ i = omega arith in omega (arith, ap (end_at w) z)

    ends_there : (j : ℕ) → i + 1 < j → j ≤ n → 0 < get_or (set caps e v) j 0 → (m : ℕ) × (m < i + 1) × (end_at w m ≡ j)
    ends_there j a u h = go (ℕ_discrete j e)
      where
        go : Dec (j ≡ e) → (m : ℕ) × (m < i + 1) × (end_at w m ≡ j)
        go (yes q) = (i, omega arith, sym is ∙ sym q)
        go (no q) =
            let (m, before, there) = p.ends j (omega arith) u (rw (get_or-set_other caps e j v 0 q) at h) in
            (m, omega arith, there)

    none_crosses : (k j : ℕ) → k < j → j < i + 1 → j < end_at w k → end_at w j ≤ end_at w k
    none_crosses k j a b c = go (dec_lt j i)
      where
        go : Dec (j < i) → end_at w j ≤ end_at w k
        go (yes d) = p.nested k j a d c
        go (no d) = let z : j ≡ i = omega arith in omega (arith, ap (end_at w) z, open_at k (omega arith) (omega arith))

    pub capped_more : Capped w n size (set caps e v) cap' (i + 1)
    capped_more = record {
      low = omega arith;
      same = length-set caps e v ∙ p.same;
      next = λ k a b. rw onward (max-le (kept k (i + 1) a (omega arith) (omega arith) b) (ends_within k a (omega arith)));
      later = λ k j a b u c. kept k j a (omega arith) u c;
      ends = ends_there;
      nested = none_crosses;
    }

pub no_crossing : {w caps : List ℕ} {n size cap i : ℕ} → Capped w n size caps cap i → n ≤ i → (k : ℕ) → end_at w k ≤ n → nesting_fault w k ≡ false
unfolding nesting_fault
no_crossing {w} {caps} {n} p all k u = some_no (λ j. ltb k j && ltb (end_at w k) (end_at w j)) (λ j l. go j l (dec_le j k))
  where
    go : (j : ℕ) → j < end_at w k → Dec (j ≤ k) → ltb k j && ltb (end_at w k) (end_at w j) ≡ false
    go j l (yes g) = rw (le-ltb _ _ g)
    go j l (no g) =
        let a : k < j = omega arith in
        rw (lt-ltb _ _ a, le-ltb (end_at w k) (end_at w j) (p.nested k j a (omega arith) l))
