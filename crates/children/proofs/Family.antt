-- The children of a node, one after the other: with each node ending after its start, fuel is never short.
use Rattle.std.proofs.Common.{ℕ, zero, suc, ◌+◌, ◌-◌, ◌≤◌, ◌<◌, ◌≡◌, refl, ◌∙◌, ap, sym, arith, lt-ltb, le-ltb, le-leb, Bool, not, leb, ◌&&◌, ◌||◌, List, [], ◌∷◌, le_refl}
use Rattle.std.proofs.Math.Decide.{dec_le}
use Rattle.std.proofs.lemmas.Bool.{lt-leb}
use Rattle.meaning.specs.Table.{kind_at, variant_at, end_at, siblings, children_at}
use Rattle.meaning.specs.Refusals.{node_in, is_empty, is_extension, not_as_listed}
use Rattle.children.specs.Shaped.{Parent, from}
use Rattle.children.specs.Walk.{done, fills}
use Rattle.children.specs.States.{state_of, Goes}
use Rattle.children.proofs.Walk.{fills_more, fills_end}
use Rattle.children.proofs.Rules.{own_state}

module _ (w : List ℕ) (e : ℕ) where
  none : (f c : ℕ) → e ≤ c → siblings f w c e ≡ []
  unfolding siblings
  none zero c h = refl
  none (suc f) c h = rw (le-ltb c e h, siblings)

  pub from_end : (c : ℕ) → e ≤ c → from w c e ≡ []
  unfolding from
  from_end c h = none (e - c) c h

  more : (f c : ℕ) → c < e → siblings (suc f) w c e ≡ c ∷ siblings f w (end_at w c) e
  unfolding siblings
  more f c h = rw (lt-ltb c e h, siblings)

  module _ (onward : (k : ℕ) → k < e → k < end_at w k) where
    -- fuel that is enough is as good as any other
    enough : (f g c : ℕ) → e - c ≤ f → e - c ≤ g → siblings f w c e ≡ siblings g w c e
    enough zero g c hf hg = none zero c (omega arith) ∙ sym (none g c (omega arith))
    enough (suc f) zero c hf hg = none (suc f) c (omega arith) ∙ sym (none zero c (omega arith))
    enough (suc f) (suc g) c hf hg = go (dec_le e c) (enough f g (end_at w c))
      where
        go : Dec (e ≤ c) → (e - end_at w c ≤ f → e - end_at w c ≤ g → siblings f w (end_at w c) e ≡ siblings g w (end_at w c) e)
            → siblings (suc f) w c e ≡ siblings (suc g) w c e
        go (yes l) ih = none (suc f) c l ∙ sym (none (suc g) c l)
        go (no l) ih =
            let u = onward c (omega arith) in
            more f c (omega arith) ∙ ap (λ (ks : List ℕ). c ∷ ks) (ih (omega arith) (omega arith)) ∙ sym (more g c (omega arith))

    pub from_more : (c : ℕ) → c < e → from w c e ≡ c ∷ from w (end_at w c) e
    unfolding from
    from_more c l =
        let u = onward c l in
        enough (e - c) (suc (e - c)) c (le_refl (e - c)) (omega arith)
        ∙ more (e - c) c l
        ∙ ap (λ (ks : List ℕ). c ∷ ks) (enough (e - c) (e - end_at w c) (end_at w c) (omega arith) (le_refl (e - end_at w c)))

module _ (w : List ℕ) (i : ℕ) (onward : (k : ℕ) → k < end_at w i → k < end_at w k) where
  pub children_from : children_at w i ≡ from w (i + 1) (end_at w i)
  unfolding children_at from
  children_from = enough w (end_at w i) onward (end_at w i - i) (end_at w i - (i + 1)) (i + 1) (omega arith) (le_refl (end_at w i - (i + 1)))

  -- a node has no child exactly if it ends at the node after it
  pub no_children : is_empty (children_at w i) ≡ leb (end_at w i) (i + 1)
  no_children = ap is_empty children_from ∙ go (dec_le (end_at w i) (i + 1))
    where
      go : Dec (end_at w i ≤ i + 1) → is_empty (from w (i + 1) (end_at w i)) ≡ leb (end_at w i) (i + 1)
      go (yes l) = rw (from_end w (end_at w i) (i + 1) l, le-leb (end_at w i) (i + 1) l)
      go (no l) = rw (from_more w (end_at w i) onward (i + 1) (omega arith), lt-leb (end_at w i) (i + 1) (omega arith))

-- ---- the walk from child to child

-- node c, of the kind k and the variant v, leads from the state p to q, and ends at d
pub walk_step : (w : List ℕ) (e p c k v q d : ℕ) {b : Bool} → ((k : ℕ) → k < e → k < end_at w k) → c < e
    → k ≡ kind_at w c → v ≡ variant_at w c → d ≡ end_at w c → Goes p k v q
    → fills (node_in w) (state_of p) (from w c e) ≡ b → fills (node_in w) (state_of q) (from w d e) ≡ b
unfolding node_in
walk_step w e p c k v q d onward l ek ev ed g h =
    rw (ed, g.is, ek, ev) (sym (fills_more (node_in w) (state_of p) c (from w (end_at w c) e)) ∙ rw (← from_more w e onward c l) h)

pub walk_end : (w : List ℕ) (e p c : ℕ) {b : Bool} → e ≤ c → fills (node_in w) (state_of p) (from w c e) ≡ b → done (state_of p) ≡ b
walk_end w e p c l h = sym (fills_end (node_in w) (state_of p)) ∙ rw (← from_end w e c l) h

-- ---- one node

-- whether the children are as listed, by whether the walk from the kind's own state fits
pub listed : (w : List ℕ) (i k e p : ℕ) {f : Bool} → Parent w i k e → p ≡ k + 1
    → f ≡ fills (node_in w) (state_of p) (from w (i + 1) e) → not f || (is_extension k && leb e (i + 1)) ≡ not_as_listed w i
unfolding not_as_listed
listed w i k e p s ep ef =
    let onward : (j : ℕ) → j < end_at w i → j < end_at w j = λ j h. s.nodes.onward j (omega (arith, s.end_is)) in
    rw (ef, ep, s.kind_is, s.end_is, own_state (kind_at w i) (s.nodes.known i s.before), no_children w i onward, children_from w i onward)
