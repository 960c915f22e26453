-- What is true of a table's nodes where none has the fault of refusal 3: what the later refusals and the printer rest on.
use Rattle.std.specs.Prelude.{◌≡◌, refl, Bool, true, false, not, ◌&&◌, List, [], ◌∷◌, ℕ, ◌+◌, ◌≤◌, ◌<◌, eqb, ltb, leb, length}
use Rattle.std.proofs.Common.{sym, ◌∙◌, arith}
use Rattle.std.proofs.Common.{leb-false, ltb-false, eqb-true, eq-eqb, ne_eqb}
use Rattle.std.proofs.lemmas.Bool.{eqb-false}
use Rattle.base.specs.Bools.{clash, or_left_false, or_right_false, and_left, and_right, not_false}
use Rattle.meaning.specs.Kind
use Rattle.meaning.specs.Table.{nodes, kind_at, variant_at, start_at, length_at, end_at}
use Rattle.meaning.specs.Children.{row_of}
use Rattle.meaning.specs.Refusals.{one_of, takes_no_text, kind_fault, place_fault, end_fault, node_fault}

pub record Sound (w p : List ℕ) (n : ℕ) : Type 0 where
  -- kind and variant are known
  pub kind : (k : ℕ) → k < n → kind_at w k < Kind.count
  pub variant : (k : ℕ) → k < n → variant_at w k < (row_of (kind_at w k)).variants
  -- the text lies in the pool; an empty one starts at 0; there is none where none is allowed
  pub text : (k : ℕ) → k < n → start_at w k + length_at w k ≤ length p
  pub empty : (k : ℕ) → k < n → length_at w k ≡ 0 → start_at w k ≡ 0
  pub textless : (k : ℕ) → k < n → takes_no_text (row_of (kind_at w k)).text ≡ true → length_at w k ≡ 0
  -- the end is after the node and within the table
  pub after : (k : ℕ) → k < n → k < end_at w k
  pub within : (k : ℕ) → k < n → end_at w k ≤ n
  -- node 0, and no other, is the Document, and ends the table
  pub document : 0 < n → kind_at w 0 ≡ Kind.document
  pub whole : 0 < n → end_at w 0 ≡ n
  pub elsewhere : (k : ℕ) → k < n → 0 < k → kind_at w k ≡ Kind.document → ⊥

-- ---- the law: each test of the definition is false

pub known_kind : (w : List ℕ) (k : ℕ) → kind_fault w k ≡ false → kind_at w k < Kind.count
unfolding kind_fault
known_kind w k e = leb-false Kind.count (kind_at w k) (or_left_false _ _ e)

abbrev NoneOf : List Bool → Type 0
NoneOf [] = Unit {0}
NoneOf (b ∷ bs) = (b ≡ false) × NoneOf bs

none_of : (bs : List Bool) → one_of bs ≡ false → NoneOf bs
none_of [] h = tt
none_of (b ∷ bs) h = (or_left_false b (one_of bs) h, none_of bs (or_right_false b (one_of bs) h))

other_false : (a b : Bool) → a && b ≡ false → a ≡ true → b ≡ false
other_false true b h t = h
other_false false b h t = clash t refl

abbrev textless : List ℕ → ℕ → Bool
textless w k = takes_no_text (row_of (kind_at w k)).text

abbrev ends_table : List ℕ → ℕ → Bool
ends_table w k = eqb (kind_at w k) Kind.document && eqb (end_at w k) (nodes w)

abbrev faults : List ℕ → List ℕ → ℕ → List Bool
faults w p k = kind_fault w k ∷ place_fault w p k ∷ end_fault w k ∷ []

abbrev place_tests : List ℕ → List ℕ → ℕ → List Bool
place_tests w p k =
    ltb (length p) (start_at w k + length_at w k)
    ∷ (eqb (length_at w k) 0 && not (eqb (start_at w k) 0))
    ∷ (textless w k && not (eqb (length_at w k) 0))
    ∷ []

abbrev end_tests : List ℕ → ℕ → List Bool
end_tests w k =
    leb (end_at w k) k
    ∷ ltb (nodes w) (end_at w k)
    ∷ (eqb k 0 && not (ends_table w k))
    ∷ (not (eqb k 0) && eqb (kind_at w k) Kind.document)
    ∷ []

module _ (w p : List ℕ) (k : ℕ) (e : node_fault w p k ≡ false) where
  fine : NoneOf (faults w p k)
  unfolding node_fault
  fine = none_of (faults w p k) e

  place_fine : NoneOf (place_tests w p k)
  unfolding place_fault
  place_fine = none_of (place_tests w p k) fine.1.0

  end_fine : NoneOf (end_tests w k)
  unfolding end_fault
  end_fine = none_of (end_tests w k) fine.1.1.0

  variant_known : variant_at w k < (row_of (kind_at w k)).variants
  unfolding kind_fault
  variant_known =
      leb-false (row_of (kind_at w k)).variants (variant_at w k) (or_right_false (leb Kind.count (kind_at w k)) _ fine.0)

  text_within : start_at w k + length_at w k ≤ length p
  text_within = ltb-false (length p) (start_at w k + length_at w k) place_fine.0

  empty_at_zero : length_at w k ≡ 0 → start_at w k ≡ 0
  empty_at_zero z =
      eqb-true (start_at w k) 0
      (not_false _ (other_false (eqb (length_at w k) 0) _ place_fine.1.0 (eq-eqb (length_at w k) 0 z)))

  no_text_lem : textless w k ≡ true → length_at w k ≡ 0
  no_text_lem t = eqb-true (length_at w k) 0 (not_false _ (other_false (textless w k) _ place_fine.1.1.0 t))

  ends_after : k < end_at w k
  ends_after = leb-false (end_at w k) k end_fine.0

  ends_within : end_at w k ≤ nodes w
  ends_within = ltb-false (nodes w) (end_at w k) end_fine.1.0

  document_at_zero : k ≡ 0 → ends_table w k ≡ true
  document_at_zero z = not_false _ (other_false (eqb k 0) _ end_fine.1.1.0 (eq-eqb k 0 z))

  no_document : 0 < k → kind_at w k ≡ Kind.document → ⊥
  no_document l =
      eqb-false (kind_at w k) Kind.document
      (other_false (not (eqb k 0)) _ end_fine.1.1.1.0 (rw (ne_eqb k 0 (λ z. omega arith))))

-- n is the number of nodes, and none of them has the fault
pub sound : {w p : List ℕ} {n : ℕ} → n ≡ nodes w → ((k : ℕ) → k < n → node_fault w p k ≡ false) → Sound w p n
sound {w} {p} {n} count none = record {
  kind = λ k l. known_kind w k (fine w p k (none k l)).0;
  variant = λ k l. variant_known w p k (none k l);
  text = λ k l. text_within w p k (none k l);
  empty = λ k l. empty_at_zero w p k (none k l);
  textless = λ k l. no_text_lem w p k (none k l);
  after = λ k l. ends_after w p k (none k l);
  within = λ k l. rw count (ends_within w p k (none k l));
  document = λ l. eqb-true (kind_at w 0) Kind.document (and_left _ _ (document_at_zero w p 0 (none 0 l) refl));
  whole = λ l. eqb-true (end_at w 0) (nodes w) (and_right (eqb (kind_at w 0) Kind.document) _ (document_at_zero w p 0 (none 0 l) refl)) ∙ sym count;
  elsewhere = λ k l. no_document w p k (none k l);
}
