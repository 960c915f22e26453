-- The reading of characters is the specification's grammar, characters up to the closing quotes: it reads a text exactly if the
-- grammar makes it, once what stands at a front is a character or the closing quotes exactly if the grammar says so.
use Rattle.std.specs.Prelude.{◌≡◌, refl, ◌↔◌, Bool, true, false}
use Rattle.std.proofs.Common.{sym, ap, ◌∙◌, subst}
use Rattle.std.proofs.Math.Option.{Option, none, some}
use mathlib.Core.List.{List, [], ◌∷◌, ◌++◌, append-nil}
use Prim.Native.Nat.{ℕ, zero, suc}
use Rattle.std.proofs.Math.ListN.{drop}
use Rattle.base.specs.Bools.{clash}
use Rattle.meaning.specs.Reading.{Front, character, closing, wrong, prepend, nothing_more, on_front, characters}
use Rattle.literal_laws.specs.Characters.{prepend_some}

-- "StringCharacter*" or "BlockStringCharacter*" and the closing quotes, with the bytes that they stand for. `One t u s` says that
-- the bytes t are one character where s follows, and stand for u.
pub data Characters (One : List ℕ → List ℕ → List ℕ → Type 0) (quotes : List ℕ) : List ℕ → List ℕ → Type 0 where
  close : Characters One quotes quotes []
  more : {t u s v : List ℕ} → One t u s → Characters One quotes s v → Characters One quotes (t ++ s) (u ++ v)

-- what a front says of the text b ∷ s: it begins with a character before the rest, or with the closing quotes
abbrev pub Says : (List ℕ → List ℕ → List ℕ → Type 0) → List ℕ → ℕ → List ℕ → Front → Type 0
Says One quotes b s (character u k) = (t : List ℕ) × One t u (drop k s) × (t ++ drop k s ≡ b ∷ s)
Says One quotes b s (closing k) = quotes ++ drop k s ≡ b ∷ s
Says One quotes b s wrong = Unit {0}

-- a front says what the grammar says, and every character of the grammar is read
pub record Agrees (front : List ℕ → Front) (One : List ℕ → List ℕ → List ℕ → Type 0) (quotes : List ℕ) : Type 0 where
  pub says : (b : ℕ) (s : List ℕ) → Says One quotes b s (front (b ∷ s))
  pub reads : (t u s : List ℕ) → One t u s → characters front 0 (t ++ s) ≡ prepend u (characters front 0 s)
  pub closes : characters front 0 quotes ≡ some []

-- something was read
abbrev is_some : Option (List ℕ) → Bool
is_some none = false
is_some (some v) = true

none_is_not_some : {X : Type 0} {v : List ℕ} → ◌≡◌ {A = Option (List ℕ)} none (some v) → X
none_is_not_some h = clash refl (ap is_some (sym h))

same_inside : {v w : List ℕ} → ◌≡◌ {A = Option (List ℕ)} (some v) (some w) → v ≡ w
same_inside h = cc

-- what stands behind a `prepend`
prepended : (u : List ℕ) (o : Option (List ℕ)) (v : List ℕ) → prepend u o ≡ some v → (w : List ℕ) × (o ≡ some w) × (u ++ w ≡ v)
unfolding prepend
prepended u none v h = none_is_not_some h
prepended u (some w) v h = (w, refl, same_inside h)

pub nothing_left : (s v : List ℕ) → nothing_more s ≡ some v → (s ≡ []) × (v ≡ [])
unfolding nothing_more
nothing_left [] v h = (refl, sym (same_inside h))
nothing_left (b ∷ s) v h = none_is_not_some h

module _ (front : List ℕ → Front) (One : List ℕ → List ℕ → List ℕ → Type 0) (quotes : List ℕ) (agrees : Agrees front One quotes) where
  same_text_lem : {s s' v v' : List ℕ} → Characters One quotes s v → s ≡ s' → v ≡ v' → Characters One quotes s' v'
  same_text_lem {s} {s'} {v} {v'} g e f =
      subst (λ (x : List ℕ). Characters One quotes s' x) f (subst (λ (x : List ℕ). Characters One quotes x v) e g)

  pub grammar_is_read : {s v : List ℕ} → Characters One quotes s v → characters front 0 s ≡ some v
  grammar_is_read close = agrees.closes
  grammar_is_read (more {t} {u} {s} {v} o g) = agrees.reads t u s o ∙ rw (grammar_is_read g) (prepend_some u v)

  by_front : (f : Front) (b : ℕ) (s v : List ℕ) → Says One quotes b s f
      → ((k : ℕ) (w : List ℕ) → characters front k s ≡ some w → Characters One quotes (drop k s) w)
      → on_front f s (λ k. characters front k s) ≡ some v → Characters One quotes (b ∷ s) v
  unfolding on_front
  by_front (character u k) b s v c ih h =
      let p = prepended u (characters front k s) v h in
      same_text_lem (more c.1 (ih k p.0 p.1)) c.2 p.2
  by_front (closing k) b s v c ih h =
      let n = nothing_left (drop k s) v h in
      let e : quotes ++ drop k s ≡ quotes = rw n.0 (append-nil quotes) in
      same_text_lem close (sym e ∙ c) (sym n.1)
  by_front wrong b s v c ih h = none_is_not_some h

  read_after : (k : ℕ) (s v : List ℕ) → characters front k s ≡ some v → Characters One quotes (drop k s) v
  unfolding characters
  read_after k [] v h = none_is_not_some h
  read_after zero (b ∷ s) v h = by_front (front (b ∷ s)) b s v (agrees.says b s) (λ k w. read_after k s w) h
  read_after (suc k) (b ∷ s) v h = read_after k s v h

  pub characters_are_the_grammar : (s v : List ℕ) → (characters front 0 s ≡ some v) ↔ Characters One quotes s v
  characters_are_the_grammar s v = (read_after 0 s v, grammar_is_read)
