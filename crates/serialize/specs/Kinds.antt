-- What is so of each of several kinds that are printed alike.
use Rattle.std.specs.Prelude.{◌≡◌, refl, true, List, [], ◌∷◌, ℕ, ◌≤◌, ◌<◌, leb}
use Rattle.std.proofs.Common.{◌⊎◌, inl, inr, arith, le-leb}
use Rattle.std.proofs.Math.ListN.{get_or-eq_default}
use Rattle.meaning.specs.KindNumbers.{kind_number}
use Rattle.meaning.specs.declared.kind.Kind.{Kind}
use Rattle.meaning.specs.declared.kind.Kind.TheVariants.{Argument, ObjectField, NamedType, ListType, InterfaceName, UnionMember, Alias, EnumValue, Float, Int}
use Rattle.meaning.specs.Children.{type, is_in}
use Rattle.meaning.specs.Rules.{text, rules, rule_of}
use Rattle.meaning.specs.Settings.{Settings}
use Rattle.base.specs.Bools.{and_both}
use Rattle.meaning.specs.Table.{kind_at, variant_at, head_at, tree_at}
use Rattle.meaning.specs.Layout.{said, node_text}

-- ---- by the kind's number

pub a_type : (w : List ℕ) (i : ℕ) {k : ℕ} → k ≡ kind_at w i → 33 ≤ k → k < 35 → is_in type (kind_at w i) (variant_at w i) ≡ true
unfolding is_in
a_type w i e l h =
    and_both (leb 33 (kind_at w i)) (leb (kind_at w i) 34) (le-leb 33 (kind_at w i) (omega (arith, e))) (le-leb (kind_at w i) 34 (omega (arith, e)))

-- no definition is among the nodes below
pub no_definition {ℓ} : {X : Type ℓ} (w : List ℕ) (i : ℕ) {k : ℕ} → k ≡ kind_at w i → 17 < kind_at w i → k < 18 → X
no_definition w i e l h = absurd (omega (arith, e, l, h))

pub past_all : (w : List ℕ) (i : ℕ) {k : ℕ} → k ≡ kind_at w i → 44 ≤ k → (k ≡ 44 → ⊥) → 45 ≤ kind_at w i
past_all w i e l n = omega (arith, e, l, n)

-- ---- by its name

module _ {k : Kind} where
  pub type_kind : {n : ℕ} → (k ≡ NamedType) ⊎ (k ≡ ListType) → kind_number k ≡ n → (v : ℕ) → is_in type n v ≡ true
  unfolding is_in
  type_kind (inl e) z v = rw (← z, e) refl
  type_kind (inr e) z v = rw (← z, e) refl

  pub argument_kind : (k ≡ Argument) ⊎ (k ≡ ObjectField) → rule_of (kind_number k) ≡ rule_of 20
  unfolding rule_of
  argument_kind (inl e) = rw e refl
  argument_kind (inr e) = rw e refl

  pub name_kind : (k ≡ InterfaceName) ⊎ ((k ≡ UnionMember) ⊎ ((k ≡ Alias) ⊎ ((k ≡ EnumValue) ⊎ ((k ≡ Float) ⊎ (k ≡ Int)))))
      → rule_of (kind_number k) ≡ text ∷ []
  unfolding rule_of
  name_kind (inl e) = rw e refl
  name_kind (inr (inl e)) = rw e refl
  name_kind (inr (inr (inl e))) = rw e refl
  name_kind (inr (inr (inr (inl e)))) = rw e refl
  name_kind (inr (inr (inr (inr (inl e))))) = rw e refl
  name_kind (inr (inr (inr (inr (inr e))))) = rw e refl

-- an unknown kind has no rule
pub no_kind : (w p : List ℕ) (i : ℕ) (s : Settings) → 45 ≤ kind_at w i → [] ≡ node_text (tree_at w p i) s
unfolding node_text tree_at head_at said rule_of
no_kind w p i s h = rw (get_or-eq_default rules [] h) refl
