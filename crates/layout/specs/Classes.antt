-- The code's classes are document 01's.
use Rattle.std.specs.Prelude.{◌≡◌, refl, ℕ, ◌≤◌, ◌<◌, Bool, true, false, ◌&&◌, ◌||◌, eqb, leb}
use Rattle.std.proofs.Common.{sym, arith, ne_eqb}
use Rattle.std.proofs.lemmas.Bool.{le-leb, lt-leb}
use Rattle.std.proofs.Math.Bool.{and-false}
use Rattle.meaning.specs.Kind as kinds
use Rattle.meaning.specs.Layout.{is_mark}
use Rattle.meaning.specs.Children.{Class as ClassMeant, a, selection, value, is_in}
use Rattle.meaning.specs.KindNumbers.{kind_number}
use Rattle.layout.specs.declared.Class.{Class}
use Rattle.layout.specs.declared.Class.TheVariants.{Kind, Number, Selection, Value}

abbrev pub meant : Class → ClassMeant
meant (Kind k) = a (kind_number k)
meant (Number n) = a n
meant Selection = selection
meant Value = value

abbrev pub is_selection : ℕ → Bool
is_selection k = eqb k kinds.field || (leb kinds.fragment_spread k && leb k kinds.inline_fragment)

abbrev pub is_value : ℕ → Bool
is_value k = leb kinds.null k && leb k kinds.object_value

module _ (k variant : ℕ) where
  pub kind_tells : (j : ℕ) → eqb k j ≡ is_in (a j) k variant
  unfolding is_in
  kind_tells j = refl

  pub selection_tells : is_selection k ≡ is_in selection k variant
  unfolding is_in
  selection_tells = refl

  pub value_tells : is_value k ≡ is_in value k variant
  unfolding is_in
  value_tells = refl

  -- ---- the tests of the two classes, one after the other
  pub field_is_selection : k ≡ 29 → true ≡ is_in selection k variant
  unfolding is_in
  field_is_selection e = rw e refl

  pub before_fragments : (k ≡ 29 → ⊥) → k < 31 → false ≡ is_in selection k variant
  unfolding is_in
  before_fragments n l = rw (ne_eqb k 29 n, lt-leb 31 k l) refl

  pub fragments_tell : (k ≡ 29 → ⊥) → 31 ≤ k → leb k 32 ≡ is_in selection k variant
  unfolding is_in
  fragments_tell n l = rw (ne_eqb k 29 n, le-leb 31 k l) refl

  pub before_values : k < 35 → false ≡ is_in value k variant
  unfolding is_in
  before_values l = rw (lt-leb 35 k l) refl

  pub values_tell : 35 ≤ k → leb k 43 ≡ is_in value k variant
  unfolding is_in
  values_tell l = rw (le-leb 35 k l) refl

  -- no class has a number that is no kind's
  pub no_selection : kinds.count ≤ k → false ≡ is_in selection k variant
  unfolding is_in
  no_selection h =
      let x : eqb k kinds.field ≡ false = ne_eqb k kinds.field (λ e. omega (arith, e, h)) in
      let y : leb k kinds.inline_fragment ≡ false = lt-leb k kinds.inline_fragment (omega arith) in
      rw (x, y) (sym (and-false (leb kinds.fragment_spread k)))

  pub no_value : kinds.count ≤ k → false ≡ is_in value k variant
  unfolding is_in
  no_value h =
      let y : leb k kinds.object_value ≡ false = lt-leb k kinds.object_value (omega arith) in
      rw y (sym (and-false (leb kinds.null k)))

pub no_mark : (k : ℕ) → kinds.count ≤ k → false ≡ is_mark k
no_mark k h =
    let x : eqb k kinds.description ≡ false = ne_eqb k kinds.description (λ e. omega (arith, e, h)) in
    let y : eqb k kinds.directive ≡ false = ne_eqb k kinds.directive (λ e. omega (arith, e, h)) in
    rw (x, y) refl
