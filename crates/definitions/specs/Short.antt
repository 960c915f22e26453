-- A definition's text: its selections alone where it is the first and may be shorthand, else the parts of its kind's rule.
use Rattle.std.specs.Prelude.{◌≡◌, refl, Bool, true, false, ◌&&◌, ◌⊎◌, List, [], ◌∷◌, ℕ, ◌+◌, ◌≤◌, ◌<◌, eqb}
use Rattle.std.proofs.Common.{sym, inl, inr, ◌∙◌, arith, eq-eqb, ne_eqb}
use Rattle.std.proofs.Math.Decide.{dec_le}
use Rattle.meaning.specs.Kind
use Rattle.meaning.specs.Settings.{Settings}
use Rattle.meaning.specs.Table.{nodes, kind_at, variant_at, length_at, end_at, text_at, head_at, tree_at}
use Rattle.meaning.specs.Children.{selection, run, past}
use Rattle.meaning.specs.Rules.{curly_brackets, shorthand, rule_of}
use Rattle.meaning.specs.Layout.{child_in, is_empty, in_braces, is_short, definition_text}
use Rattle.pen.specs.declared.Pen.{Pen}
use Rattle.pen.specs.Wrote.{Wrote, wrote_as}
use Rattle.tree_laws.specs.Forest.{Shaped, children_range}
use Rattle.layout.specs.declared.Children.{Children}
use Rattle.layout.specs.Kids.{kids, next_is}
use Rattle.layout.specs.Written.{ChildrenOf}
use Rattle.layout.specs.Jobs.{ranged, has_text}
use Rattle.layout.specs.Did.{Walked, Did, starts_next}
use Rattle.leaves.specs.Leaves.{no_text_there, text_there}
use Rattle.serialize.specs.Parts.{did_braces}
use Rattle.definitions.specs.Segments.{short_at}

pub no_shorthand : (a b : Bool) → (a ≡ false) ⊎ (b ≡ false) → a && b ≡ false
no_shorthand a b (inl e) = rw e refl
no_shorthand true b (inr e) = e
no_shorthand false b (inr e) = refl

-- the tests of the code
pub short_told : {w : List ℕ} {i : ℕ} {at : Children} → ChildrenOf w i at → {a d : Bool} {k v l : ℕ} → a ≡ eqb k Kind.operation → k ≡ kind_at w i
    → v ≡ variant_at w i → l ≡ length_at w i → d ≡ next_is w selection at.next.0 at.end.0
    → a && (eqb v 0 && (eqb l 0 && d)) ≡ short_at w i (end_at w i)
unfolding short_at
short_told c a k v l d = rw (a, k, v, l, d, c.next, c.end) refl

-- the same, test by test
module _ (w : List ℕ) (i e : ℕ) where
  pub other_kind : {k : ℕ} → k ≡ kind_at w i → (k ≡ 1 → ⊥) → false ≡ short_at w i e
  unfolding short_at
  other_kind z n = rw (ne_eqb (kind_at w i) 1 (λ y. n (z ∙ y))) refl

  module _ {k : ℕ} (a : k ≡ kind_at w i) (b : k ≡ 1) where
    pub other_variant : {v : ℕ} → v ≡ variant_at w i → (v ≡ 0 → ⊥) → false ≡ short_at w i e
    unfolding short_at
    other_variant z n = rw (eq-eqb (kind_at w i) 1 (sym a ∙ b), ne_eqb (variant_at w i) 0 (λ y. n (z ∙ y))) refl

    module _ {v : ℕ} (c : v ≡ variant_at w i) (d : v ≡ 0) where
      pub named : {l : ℕ} → l ≡ length_at w i → (l ≡ 0 → ⊥) → false ≡ short_at w i e
      unfolding short_at
      named z n = rw (eq-eqb (kind_at w i) 1 (sym a ∙ b), eq-eqb (variant_at w i) 0 (sym c ∙ d), ne_eqb (length_at w i) 0 (λ y. n (z ∙ y))) refl

      pub selections_tell : {l : ℕ} → l ≡ length_at w i → l ≡ 0 → next_is w selection (i + 1) e ≡ short_at w i e
      unfolding short_at
      selections_tell z y = rw (eq-eqb (kind_at w i) 1 (sym a ∙ b), eq-eqb (variant_at w i) 0 (sym c ∙ d), eq-eqb (length_at w i) 0 (sym z ∙ y)) refl

module _ {w p : List ℕ} {i : ℕ} (shaped : Shaped w p) (h : i < nodes w) where
  text_tells : is_empty (text_at w p i) ≡ eqb (length_at w i) 0
  text_tells = go (dec_le (length_at w i) 0)
    where
      go : Dec (length_at w i ≤ 0) → is_empty (text_at w p i) ≡ eqb (length_at w i) 0
      go (yes l) = let z : length_at w i ≡ 0 = omega arith in no_text_there w p i refl z ∙ sym (eq-eqb (length_at w i) 0 z)
      go (no l) = let n : length_at w i ≡ 0 → ⊥ = λ z. l (omega (arith, z)) in text_there w p i (has_text shaped h) refl n ∙ sym (ne_eqb (length_at w i) 0 n)

  short_is : is_short (head_at w p i) (kids w p (i + 1) (end_at w i)) ≡ short_at w i (end_at w i)
  unfolding is_short short_at head_at
  short_is = rw (text_tells, starts_next (ranged shaped (children_range shaped i h)) selection) refl

  module _ (s : Settings) {at : Children} {o : Pen} {r : Children} {q : Pen} (c : ChildrenOf w i at) where
    pub long_definition : (first : Bool) {k : ℕ} → first && short_at w i (end_at w i) ≡ false → k ≡ kind_at w i → Did w p s i (rule_of k) at o r q
        → Wrote o (definition_text s first (tree_at w p i)) q
    unfolding definition_text tree_at kids head_at
    long_definition first x k y = wrote_as y.walked.wrote (rw (c.next, c.end, k) (sym (rw (short_is, x) refl)))

    pub short_definition : (first : Bool) → first && short_at w i (end_at w i) ≡ true
        → Walked w p (in_braces s (run child_in selection (kids w p at.next.0 at.end.0))) (past child_in selection (kids w p at.next.0 at.end.0)) at o r q
        → Wrote o (definition_text s first (tree_at w p i)) q
    unfolding definition_text tree_at kids head_at shorthand
    short_definition first x y =
        let u : Did w p s i (curly_brackets selection ∷ []) at o r q = did_braces selection y in
        wrote_as u.walked.wrote (rw (c.next, c.end) (sym (rw (short_is, x) refl)))
