-- The rule of the table of states: what a table says and what it has to say are computed for every state, kind and variant, and are the same.
use Rattle.std.proofs.Common.{ℕ, zero, suc, ◌+◌, ◌<◌, ◌≡◌, ◌∙◌, refl, Bool, true, List, ltb, eqb, sym, ap, ltb-true}
use Rattle.std.proofs.Math.Path.{fun_ext}
use Rattle.std.proofs.Math.Dec.{eqb-suc-zero}
use Rattle.meaning.specs.Kind
use Rattle.meaning.specs.Children.{Class, a, definition, selection, type, value, named_type, is_in, row_of}
use Rattle.children.specs.Walk.{Left, left, after, done}
use Rattle.children.specs.States.{state_of, column_of, state_count, end_column, Goes, entry, Right}
use Rattle.children.proofs.Values.{values, same}

-- the state before a kind's first child
pub own_state : (kind : ℕ) → kind < Kind.count → state_of (kind + 1) ≡ left (row_of kind).children
unfolding state_of row_of
own_state = same (λ k. state_of (k + 1)) (λ k. left (row_of k).children) Kind.count refl

-- ---- what a table says of the state p, and what it has to say

-- the next state by the child's kind, of variant 0 and of another, with whether it is one; whether the children may end
record Says : Type 0 where
  plain : List (Bool × Left)
  other : List (Bool × Left)
  end : Bool

abbrev said : List ℕ → ℕ → ℕ → ℕ → Bool × Left
said t p variant kind = (ltb (entry t p (column_of kind variant)) state_count, state_of (entry t p (column_of kind variant)))

abbrev meant : ℕ → ℕ → ℕ → Bool × Left
meant p variant kind = (true, after (λ c. is_in c kind variant) (state_of p))

abbrev says : List ℕ → ℕ → Says
says t p = record { plain = values (said t p 0) Kind.count; other = values (said t p 1) Kind.count; end = eqb (entry t p end_column) 1 }

abbrev means : ℕ → Says
means p = record { plain = values (meant p 0) Kind.count; other = values (meant p 1) Kind.count; end = done (state_of p) }

-- ---- variants other than 0 are all alike

one_column : (kind v : ℕ) → column_of kind (suc v) ≡ column_of kind 1
unfolding column_of
one_column kind v = rw (eqb-suc-zero v)

one_class : (kind v : ℕ) (c : Class) → is_in c kind (suc v) ≡ is_in c kind 1
unfolding is_in
one_class kind v (a k) = refl
one_class kind v definition = refl
one_class kind v selection = refl
one_class kind v type = refl
one_class kind v value = refl
one_class kind v named_type = rw (eqb-suc-zero v)

one_step : (p kind v : ℕ) → after (λ c. is_in c kind (suc v)) (state_of p) ≡ after (λ c. is_in c kind 1) (state_of p)
one_step p kind v = ap (λ (f : Class → Bool). after f (state_of p)) (fun_ext (one_class kind v))

-- ---- a table is right where the two are the same for every state

pub right_table : (t : List ℕ) → values (says t) state_count ≡ values means state_count → Right t
right_table t e = record { goes = goes; ends = λ p l. ap (λ (r : Says). r.end) (row p l) }
  where
    row : (p : ℕ) → p < state_count → says t p ≡ means p
    row p l = same (says t) means state_count e p l

    found : (p v kind : ℕ) → said t p v kind ≡ meant p v kind → Goes p kind v (entry t p (column_of kind v))
    found p v kind h = record {
      within = ltb-true (entry t p (column_of kind v)) state_count (ap (λ (x : Bool × Left). x.0) h);
      is = ap (λ (x : Bool × Left). x.1) h;
    }

    goes : (p kind variant : ℕ) → p < state_count → kind < Kind.count → Goes p kind variant (entry t p (column_of kind variant))
    goes p kind zero l h = found p 0 kind (same (said t p 0) (meant p 0) Kind.count (ap (λ (r : Says). r.plain) (row p l)) kind h)
    goes p kind (suc v) l h =
        let g = found p 1 kind (same (said t p 1) (meant p 1) Kind.count (ap (λ (r : Says). r.other) (row p l)) kind h) in
        rw (one_column kind v) (record { within = g.within; is = g.is ∙ sym (one_step p kind v) })
