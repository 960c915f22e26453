-- The next child is printed and passed: that is the part `one`. A node whose rule is one part that looks at no child is a leaf.
use Rattle.std.specs.Prelude.{◌≡◌, refl, Bool, true, List, [], ◌∷◌, ℕ, ◌≤◌, ◌<◌, eqb, ltb}
use Rattle.std.proofs.Common.{arith, sym, append-nil, eqb-true}
use Rattle.base.specs.Bools.{and_right}
use Rattle.tree_laws.specs.Forest.{Shaped, Range}
use Rattle.meaning.specs.Settings.{Settings}
use Rattle.meaning.specs.Literal.{literal as literal_text}
use Rattle.meaning.specs.Table.{kind_at, text_at, head_at, tree_at}
use Rattle.meaning.specs.Children.{a, is_in, rest}
use Rattle.meaning.specs.Rules.{text, literal, one, rule_of}
use Rattle.meaning.specs.Layout.{child_in, first_said, part_text, part_rest, said, node_text}
use Rattle.pen.specs.Wrote.{Wrote, wrote_as, wrote_none}
use Rattle.pen.specs.declared.Pen.{Pen}
use Rattle.layout.specs.declared.Children.{Children}
use Rattle.layout.specs.Kids.{kids, kids_none, kids_more, next_is}
use Rattle.layout.specs.Written.{Past}
use Rattle.layout.specs.Jobs.{rest_on, later}
use Rattle.layout.specs.Runs.{next_is_there}
use Rattle.layout.specs.Did.{Walked, walked_as, wrote_walked, Did, did_part}

module _ (s : Settings) {w p : List ℕ} {at : Children} {o : Pen} where
  pub one_printed : {r : Children} {q : Pen} → Shaped w p → Range w at.next.0 at.end.0 → at.next.0 < at.end.0
      → Wrote o (node_text (tree_at w p at.next.0) s) q → Past w at r
      → Walked w p (first_said s (kids w p at.next.0 at.end.0)) (rest child_in (kids w p at.next.0 at.end.0)) at o r q
  one_printed ok j h x z =
      let m = kids_more ok j h in
      record {
        wrote = wrote_as x (rw m refl);
        left = rw (m, z.next, z.end) refl;
        onward = λ {b} q. rw (z.next, z.end) (rest_on ok q h);
        end = z.end;
        order = omega (arith, later ok j h z.next);
      }

  pub no_one : at.end.0 ≤ at.next.0
      → Walked w p (first_said s (kids w p at.next.0 at.end.0)) (rest child_in (kids w p at.next.0 at.end.0)) at o at o
  no_one h = let m = kids_none w p h in walked_as (rw m refl) (rw m refl) (wrote_walked wrote_none)

-- ---- leaves

module _ (w p : List ℕ) (i : ℕ) (s : Settings) where
  pub name_is_text : rule_of (kind_at w i) ≡ text ∷ [] → text_at w p i ≡ node_text (tree_at w p i) s
  unfolding node_text tree_at head_at said part_text
  name_is_text e = rw e (sym (append-nil (text_at w p i)))

  pub literal_is_text : (x : Bool) → rule_of (kind_at w i) ≡ literal x ∷ [] → literal_text s x (text_at w p i) ≡ node_text (tree_at w p i) s
  unfolding node_text tree_at head_at said part_text
  literal_is_text x e = rw e (sym (append-nil (literal_text s x (text_at w p i))))

-- ---- a leaf as the next child

pub next_kind : (w : List ℕ) (k i e : ℕ) → next_is w (a k) i e ≡ true → kind_at w i ≡ k
unfolding next_is is_in
next_kind w k i e z = eqb-true (kind_at w i) k (and_right (ltb i e) (eqb (kind_at w i) k) z)

pub leaf_child : {w p : List ℕ} {s : Settings} {n : ℕ} (k : ℕ) {t : List ℕ} {at : Children} {o : Pen} {r : Children} {q : Pen}
    → Shaped w p → Range w at.next.0 at.end.0 → next_is w (a k) at.next.0 at.end.0 ≡ true → t ≡ node_text (tree_at w p at.next.0) s
    → Wrote o t q → Past w at r → Did w p s n (one (a k) ∷ []) at o r q
unfolding part_text part_rest
leaf_child {w} {p} {s} {n} k {t} {at} ok j z y x b =
    did_part (one (a k)) refl (one_printed s ok j (next_is_there w (a k) at.next.0 at.end.0 z) (wrote_as x y) b)
