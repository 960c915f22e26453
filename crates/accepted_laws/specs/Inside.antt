-- No definition, and no document, stands below any node other than the Document: every child is of a class of its parent's row, and no
-- row but the Document's has a class with a kind below 18. Children of children go the same way down.
use Rattle.std.specs.Prelude.{◌≡◌, Bool, ◌&&◌, ◌||◌, ℕ, zero, suc, ◌+◌, ◌-◌, ◌≤◌, ◌<◌, eqb, ltb, if◌then◌else◌}
use Rattle.std.proofs.Math.Path.{refl}
use Rattle.std.proofs.Math.Bool.{true, false}
use mathlib.Core.List.{List, [], ◌∷◌}
use Rattle.std.proofs.Common.{arith, lt-ltb, ltb-true, leb-true, eqb-true, ne_eqb}
use Rattle.std.proofs.Math.Decide.{dec_lt}
use Rattle.base.specs.Bools.{clash, and_left, and_right, or_left_false, not_false}
use Rattle.base.specs.Finite.{below}
use Rattle.meaning.specs.Kind
use Rattle.meaning.specs.Table.{nodes, kind_at, variant_at, end_at, siblings, children_at}
use Rattle.meaning.specs.Children.{Class, a, definition, selection, type, value, named_type, from◌to◌, is_in, Slot, one, opt, any, some, row_of, past, fill}
use Rattle.meaning.specs.Refusals.{node_in, not_as_listed, variable_fault, children_fault, has_fault, Accepted}
use Rattle.tree_laws.specs.Forest.{Shaped, Range, children_range, rest_range}
use Rattle.accepted_laws.specs.Shape.{accepted_sound, accepted_shaped}

-- the class that a slot asks for
abbrev asked : Slot → Class
asked (one c) = c
asked (opt c) = c
asked (any c) = c
asked (some c) = c

-- ---- children that fill slots

-- each has the property
abbrev pub Each : {X : Type 0} → (X → Type 0) → List X → Type 0
Each P [] = Unit {0}
Each P (x ∷ xs) = P x × Each P xs

module _ {X : Type 0} (test : Class → X → Bool) (P : X → Type 0) where
  -- all that are of the class have the property
  abbrev Has : Class → Type 0
  Has c = (x : X) → test c x ≡ true → P x

  -- the leading children of a class too, where those after them have it
  past_each : (c : Class) → Has c → (xs : List X) → Each P (past test c xs) → Each P xs
  unfolding past
  past_each c o [] h = tt
  past_each c o (x ∷ xs) h = go (test c x) refl h (past_each c o xs)
    where
      go : (b : Bool) → test c x ≡ b → Each P (if b then past test c xs else x ∷ xs) → (Each P (past test c xs) → Each P xs)
          → Each P (x ∷ xs)
      go true e h ih = (o x e, ih h)
      go false e h ih = h

  -- children that fill slots have it, where the slots' classes do
  pub filled_each : (ss : List Slot) → Each (λ s. Has (asked s)) ss → (xs : List X) → fill test ss xs ≡ true → Each P xs
  unfolding fill
  filled_each [] o [] h = tt
  filled_each [] o (x ∷ xs) h = clash h refl
  filled_each (one c ∷ ss) o [] h = tt
  filled_each (one c ∷ ss) o (x ∷ xs) h = (o.0 x (and_left _ _ h), filled_each ss o.1 xs (and_right (test c x) _ h))
  filled_each (opt c ∷ ss) o [] h = tt
  filled_each (opt c ∷ ss) o (x ∷ xs) h = go (test c x) refl h (filled_each ss o.1 xs) (filled_each ss o.1 (x ∷ xs))
    where
      go : (b : Bool) → test c x ≡ b → fill test ss (if b then xs else x ∷ xs) ≡ true → (fill test ss xs ≡ true → Each P xs)
          → (fill test ss (x ∷ xs) ≡ true → Each P (x ∷ xs)) → Each P (x ∷ xs)
      go true e h f g = (o.0 x e, f h)
      go false e h f g = g h
  filled_each (any c ∷ ss) o xs h = past_each c o.0 xs (filled_each ss o.1 (past test c xs) h)
  filled_each (some c ∷ ss) o [] h = tt
  filled_each (some c ∷ ss) o (x ∷ xs) h =
      past_each c o.0 (x ∷ xs) (filled_each ss o.1 (past test c (x ∷ xs)) (and_right (test c x) _ h))

-- ---- no row but the Document's has a class with a kind below 18

-- the class has no definition and no document
abbrev is_inner : Class → Bool
is_inner (a k) = ltb Kind.extend_input_object k
is_inner definition = false
is_inner selection = true
is_inner type = true
is_inner value = true
is_inner named_type = true

abbrev are_inner : List Slot → Bool
are_inner [] = true
are_inner (s ∷ ss) = is_inner (asked s) && are_inner ss

document_or_inner : (k : ℕ) → k < Kind.count → eqb k Kind.document || are_inner (row_of k).children ≡ true
unfolding row_of
document_or_inner = below (λ k. eqb k Kind.document || are_inner (row_of k).children) Kind.count refl

-- a row other than the Document's
inner_row : (k : ℕ) → k < Kind.count → (k ≡ Kind.document → ⊥) → are_inner (row_of k).children ≡ true
inner_row k l n = rw (ne_eqb k Kind.document n) at (document_or_inner k l)

inner_kind : (c : Class) → is_inner c ≡ true → (k v : ℕ) → is_in c k v ≡ true → Kind.extend_input_object < k
unfolding is_in
inner_kind (a n) h k v e = omega (arith, ltb-true Kind.extend_input_object n h, eqb-true k n e)
inner_kind definition h k v e = clash h refl
inner_kind selection h k v e = go (eqb k Kind.field) refl e
  where
    go : (b : Bool) → eqb k Kind.field ≡ b → b || from◌to◌ Kind.fragment_spread Kind.inline_fragment k ≡ true → Kind.extend_input_object < k
    go true p e = omega (arith, eqb-true k Kind.field p)
    go false p e = omega (arith, leb-true Kind.fragment_spread k (and_left _ _ e))
inner_kind type h k v e = omega (arith, leb-true Kind.named_type k (and_left _ _ e))
inner_kind value h k v e = omega (arith, leb-true Kind.null k (and_left _ _ e))
inner_kind named_type h k v e = omega (arith, eqb-true k Kind.named_type (and_left _ _ e))

-- ---- from child to child, and down

-- node i is neither
abbrev Inner : List ℕ → ℕ → Type 0
Inner w i = Kind.extend_input_object < kind_at w i

inner_slots : (w : List ℕ) (ss : List Slot) → are_inner ss ≡ true → Each (λ s. Has (node_in w) (Inner w) (asked s)) ss
unfolding node_in
inner_slots w [] h = tt
inner_slots w (s ∷ ss) h =
    (λ x. inner_kind (asked s) (and_left _ _ h) (kind_at w x) (variant_at w x), inner_slots w ss (and_right (is_inner (asked s)) _ h))

-- the children are as listed
pub listed : (w : List ℕ) (i : ℕ) → children_fault w i ≡ false → fill (node_in w) (row_of (kind_at w i)).children (children_at w i) ≡ true
unfolding children_fault not_as_listed
listed w i h = not_false _ (or_left_false _ _ (or_left_false _ (variable_fault w i) h))

pub first_sibling : (n : ℕ) (w : List ℕ) (i e : ℕ) → i < e → siblings (suc n) w i e ≡ i ∷ siblings n w (end_at w i) e
unfolding siblings
first_sibling n w i e h = rw (lt-ltb i e h, siblings)

-- a node from i on is i itself, below it, or after its subtree
here_below_after : (w : List ℕ) (i j : ℕ) → i ≤ j → Inner w i → (i + 1 ≤ j → j < end_at w i → Inner w j) → (end_at w i ≤ j → Inner w j) → Inner w j
here_below_after w i j l here below after = go (dec_lt i j) (dec_lt j (end_at w i))
  where
    go : Dec (i < j) → Dec (j < end_at w i) → Inner w j
    go (no b) d = let e : j ≡ i = omega arith in rw e here
    go (yes b) (yes u) = below (omega arith) u
    go (yes b) (no u) = after (omega arith)

module _ {w p : List ℕ} (ok : Accepted w p) where
  shaped : Shaped w p
  shaped = accepted_shaped ok

  pub no_children_fault : (i : ℕ) → i < nodes w → children_fault w i ≡ false
  unfolding has_fault
  no_children_fault = ok.none 6

  -- the children of a node other than the Document
  children_inner : (i : ℕ) → 0 < i → i < nodes w → Each (Inner w) (siblings (end_at w i - i) w (i + 1) (end_at w i))
  unfolding children_at
  children_inner i z h =
      let slots = (row_of (kind_at w i)).children in
      let inner = inner_row (kind_at w i) ((accepted_sound ok).kind i h) ((accepted_sound ok).elsewhere i h z) in
      filled_each (node_in w) (Inner w) slots (inner_slots w slots inner) (children_at w i) (listed w i (no_children_fault i h))

  -- trees whose first nodes are siblings; m bounds how many nodes there are, n how many siblings
  range_inner : (m n i e : ℕ) → 0 < i → Range w i e → e - i ≤ m → e - i ≤ n → Each (Inner w) (siblings n w i e)
      → (j : ℕ) → i ≤ j → j < e → Inner w j
  range_inner zero n i e z r hm hn each j l u = absurd (omega arith)
  range_inner (suc m) zero i e z r hm hn each j l u = absurd (omega arith)
  range_inner (suc m) (suc n) i e z r hm hn each j l u =
      let k : i < e = omega arith in
      let h : i < nodes w = omega (arith, r.last) in
      let up : i < end_at w i = shaped.above i h in
      let these : Each (Inner w) (i ∷ siblings n w (end_at w i) e) = rw (first_sibling n w i e k) at each in
      let small : end_at w i - (i + 1) ≤ m = omega (arith, r.whole i (omega arith) k) in
      let below = range_inner m (end_at w i - i) (i + 1) (end_at w i) (omega arith) (children_range shaped i h) small (omega arith) (children_inner i z h) j in
      let after = range_inner m n (end_at w i) e (omega arith) (rest_range shaped r k) (omega arith) (omega arith) these.1 j in
      here_below_after w i j l these.0 below (λ b. after b u)

  pub inside_definitions : (i : ℕ) → 0 < i → (j : ℕ) → i < j → j < end_at w i → i < nodes w → 17 < kind_at w j
  inside_definitions i z j l u h =
      range_inner (end_at w i) (end_at w i - i) (i + 1) (end_at w i) (omega arith) (children_range shaped i h) (omega arith)
      (omega arith) (children_inner i z h) j (omega arith) u
