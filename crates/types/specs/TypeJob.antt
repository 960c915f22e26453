-- What printing a type asks: a node that is a type, in an accepted table, whose list types hold types.
use Rattle.std.specs.Prelude.{◌≡◌, true, List, ℕ, ◌+◌, ◌<◌, leb}
use Rattle.std.proofs.Common.{refl, ap, arith, leb-true}
use Rattle.base.specs.Bools.{and_left, and_right}
use Rattle.meaning.specs.Ascii.{ascii}
use Rattle.meaning.specs.Kind
use Rattle.meaning.specs.Settings.{Settings}
use Rattle.meaning.specs.Table.{nodes, kind_at, variant_at, end_at, text_at, tree_at}
use Rattle.meaning.specs.Children.{type, is_in}
use Rattle.meaning.specs.Rules.{one, token, child, non_null, rule_of}
use Rattle.meaning.specs.Layout.{node_text, part_text, part_rest}
use Rattle.pen.specs.declared.Pen.{Pen}
use Rattle.pen.specs.Wrote.{Wrote}
use Rattle.tree_laws.specs.Forest.{Shaped, children_range}
use Rattle.tree_laws.specs.Lists.{ListsHoldTypes}
use Rattle.table.specs.Words.{InTable, TextInPool}
use Rattle.layout.specs.declared.Children.{Children}
use Rattle.layout.specs.Jobs.{Job, Ranged, ranged, inside, in_table, has_text}
use Rattle.layout.specs.Did.{Did, ◌⨾◌, did_part, did_tokens, did_name, node_written}
use Rattle.layout.specs.Child.{one_printed}

pub record TypeJob (w p : List ℕ) (i : ℕ) : Type 0 where
  pub shaped : Shaped w p
  pub lists : ListsHoldTypes w
  pub inside : i < nodes w
  pub is_type : is_in type (kind_at w i) (variant_at w i) ≡ true

pub type_job : {w p : List ℕ} {i l : ℕ} → Shaped w p → ListsHoldTypes w → Job w p i l → is_in type (kind_at w i) (variant_at w i) ≡ true → TypeJob w p i
type_job s l j k = record { shaped = s; lists = l; inside = j.inside; is_type = k }

module _ {w p : List ℕ} {i : ℕ} (j : TypeJob w p i) where
  pub node_of : InTable w i
  node_of = in_table j.shaped j.inside

  pub text_of : TextInPool w p i
  text_of = has_text j.shaped j.inside

  pub known_kind : InTable w i × (kind_at w i < Kind.count)
  unfolding is_in
  known_kind = (node_of, omega (arith, leb-true (kind_at w i) 34 (and_right (leb 33 (kind_at w i)) (leb (kind_at w i) 34) j.is_type)))

  -- a type that is not named is a list
  pub is_list : (kind_at w i ≡ 33 → ⊥) → kind_at w i ≡ Kind.list_type
  unfolding is_in
  is_list n =
      let a = leb-true 33 (kind_at w i) (and_left (leb 33 (kind_at w i)) (leb (kind_at w i) 34) j.is_type) in
      let b = leb-true (kind_at w i) 34 (and_right (leb 33 (kind_at w i)) (leb (kind_at w i) 34) j.is_type) in
      omega (arith, a, b, n)

  module _ (k : kind_at w i ≡ Kind.list_type) where
    pub inner_range : Ranged w p (i + 1) (end_at w i)
    inner_range = ranged j.shaped (children_range j.shaped i j.inside)

    pub inner_there : i + 1 < end_at w i
    inner_there = j.lists.inside i j.inside k

    pub inner_job : TypeJob w p (i + 1)
    inner_job = record {
      shaped = j.shaped;
      lists = j.lists;
      inside = inside (children_range j.shaped i j.inside) inner_there;
      is_type = j.lists.is_type i j.inside k;
    }

-- ---- the two rules

-- the walk over the children of node i, and that walk past the first
abbrev pub start : List ℕ → ℕ → Children
start w i = record { next = record { 0 = i + 1 }; end = record { 0 = end_at w i } }

abbrev pub passed : List ℕ → ℕ → Children
passed w i = record { next = record { 0 = end_at w (i + 1) }; end = record { 0 = end_at w i } }

module _ {w p : List ℕ} (s : Settings) {i : ℕ} {o a q : Pen} where
  pub named_type_lem : kind_at w i ≡ 33 → Wrote o (text_at w p i) a → Did w p s i non_null (start w i) a (start w i) q
      → Wrote o (node_text (tree_at w p i) s) q
  unfolding rule_of
  named_type_lem k x y = node_written (ap rule_of k) (record { next = refl; end = refl }) (did_name x ⨾ y)

  pub list_type_lem : {b c : Pen} → Ranged w p (i + 1) (end_at w i) → i + 1 < end_at w i → kind_at w i ≡ Kind.list_type
      → Wrote o (ascii "[") a → Wrote a (node_text (tree_at w p (i + 1)) s) b → Wrote b (ascii "]") c
      → Did w p s i non_null (passed w i) c (passed w i) q → Wrote o (node_text (tree_at w p i) s) q
  unfolding rule_of part_text part_rest
  list_type_lem {b} r h k x y u v =
      node_written (ap rule_of k) (record { next = refl; end = refl }) (did_tokens (token "[") refl x ⨾ did_one ⨾ did_tokens (token "]") refl u ⨾ v)
    where
      did_one : Did w p s i (child type) (start w i) a (passed w i) b
      did_one =
          did_part (one type) refl
          (one_printed s r.shaped r.range h y (record { next = refl; end = refl }))
