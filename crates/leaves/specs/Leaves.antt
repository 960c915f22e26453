-- The parts of a rule that `leaves` does, by name, and how its functions do them.
use Rattle.std.specs.Prelude.{◌≡◌, true, false, List, [], ◌∷◌, ◌++◌, ℕ, ◌<◌, length, take, drop}
use Rattle.std.proofs.Common.{refl, ap, arith, length-take, length-drop}
use Rattle.meaning.specs.Kind
use Rattle.meaning.specs.Settings.{Settings, new_line_or_space}
use Rattle.meaning.specs.Literal.{literal}
use Rattle.meaning.specs.Table.{start_at, length_at, text_at}
use Rattle.meaning.specs.Children.{a}
use Rattle.meaning.specs.Rules.{Part, optional, child, token, sp, one_of, description, new_line_or_space as a_line, rule_of}
use Rattle.meaning.specs.Layout.{is_empty}
use Rattle.table.specs.Words.{TextInPool}
use Rattle.pen.specs.declared.Pen.{Pen}
use Rattle.pen.specs.Wrote.{Wrote}
use Rattle.layout.specs.declared.Children.{Children}
use Rattle.layout.specs.Written.{Past}
use Rattle.layout.specs.Kids.{next_is}
use Rattle.layout.specs.Jobs.{Ranged}
use Rattle.layout.specs.Did.{Did, ◌⨾◌, did_tokens, did_line, a_child}
use Rattle.layout.specs.Child.{leaf_child, next_kind, name_is_text, literal_is_text}

-- the alias of kind 29's rule
abbrev pub alias : List Part
alias = optional (a Kind.alias) (child (a Kind.alias) ++ token ":" ++ sp)

-- kind 36's rule
abbrev pub boolean : List Part
boolean = one_of ("false" ∷ "true" ∷ [])

module _ {w p : List ℕ} {s : Settings} {n : ℕ} {at : Children} {o u : Pen} {r : Children} {q : Pen}
    (j : Ranged w p at.next.0 at.end.0) where
  pub described : next_is w (a Kind.description) at.next.0 at.end.0 ≡ true → Wrote o (literal s true (text_at w p at.next.0)) u → Past w at r
      → Wrote u (new_line_or_space s) q → Did w p s n description at o r q
  unfolding rule_of
  described z x y l =
      a_child (child (a Kind.description) ++ a_line ∷ []) j (a Kind.description) z
      (leaf_child Kind.description j.shaped j.range z
      (literal_is_text w p at.next.0 s true (ap rule_of (next_kind w Kind.description at.next.0 at.end.0 z))) x y
      ⨾ did_line l)

  pub aliased : next_is w (a Kind.alias) at.next.0 at.end.0 ≡ true → Wrote o (text_at w p at.next.0) u → Past w at r
      → Wrote u (0x3A ∷ 0x20 ∷ []) q → Did w p s n alias at o r q
  unfolding rule_of
  aliased z x y l =
      a_child (child (a Kind.alias) ++ token ":" ++ sp) j (a Kind.alias) z
      (leaf_child Kind.alias j.shaped j.range z (name_is_text w p at.next.0 s (ap rule_of (next_kind w Kind.alias at.next.0 at.end.0 z))) x y
      ⨾ did_tokens (token ":" ++ sp) refl l)

-- ---- whether a node has a text

pub no_text_there : (w p : List ℕ) (i : ℕ) {k : ℕ} → k ≡ length_at w i → k ≡ 0 → is_empty (text_at w p i) ≡ true
unfolding text_at
no_text_there w p i z y = let e : length_at w i ≡ 0 = omega (arith, z, y) in rw e

not_empty : (xs : List ℕ) → 0 < length xs → is_empty xs ≡ false
not_empty [] h = absurd (omega arith)
not_empty (x ∷ xs) h = refl

pub text_there : (w p : List ℕ) (i : ℕ) {k : ℕ} → TextInPool w p i → k ≡ length_at w i → (k ≡ 0 → ⊥) → is_empty (text_at w p i) ≡ false
unfolding text_at
text_there w p i t z y =
    not_empty (take (length_at w i) (drop (start_at w i) p))
    (omega (arith, z, y, t.in_pool, length-take (length_at w i) (drop (start_at w i) p), length-drop (start_at w i) p))
