-- What a walk keeps and what it answers: what it has read is written, and what is left says the rest of the value.
use Rattle.std.specs.Prelude.{◌≡◌, refl, Option, Some, None, Bool, true, false, not, ◌&&◌, ◌||◌, List, [], ◌∷◌, ◌++◌, ℕ, ◌+◌, ◌≤◌, ◌<◌, eqb, length, drop, get_or, if◌then◌else◌}
use Rattle.std.proofs.Common.{sym, subst, ◌∙◌, append-nil, arith, drop_of_length-le, drop-drop, ne_eqb}
use Rattle.std.proofs.Math.Option.{Option as Maybe, none, some}
use Rattle.base.specs.Bools.{clash}
use Rattle.meaning.specs.Ascii.{line_feed, carriage_return, quote, backslash}
use Rattle.meaning.specs.Utf8.{encoded}
use Rattle.meaning.specs.Reading.{character, wrong, escape, quoted_front, prepend, nothing_more, characters}
use Rattle.literal_laws.specs.Characters.{prepend_nothing, prepend_twice, prepend_some, character_read, closing_read}
use Rattle.pen.specs.declared.Pen.{Pen}
use Rattle.pen.specs.Lists.{drop_one}
use Rattle.pen.specs.Wrote.{Wrote, ◌⨾◌, wrote_as, wrote_none}
use Rattle.read_quoted.specs.Escapes.{Stands}
use Rattle.read_quoted.specs.Runs.{plain}

-- the text has a value, and it is written
pub record Value (text : Maybe (List ℕ)) (p q : Pen) : Type 0 where
  pub value : List ℕ
  pub says : text ≡ some value
  pub wrote : Wrote p value q

-- the answer of a walk that was lent the pen p and leaves q
abbrev pub WalkedIs : Maybe (List ℕ) → Pen → Pen → Option Unit → Type 0
WalkedIs text p q (Some _) = Value text p q
WalkedIs text p q None = text ≡ none

-- midway: `done` is written, and the text says `done` before what the rest says
pub record Midway (text : Maybe (List ℕ)) (p q : Pen) (rest : Maybe (List ℕ)) : Type 0 where
  pub done : List ℕ
  pub wrote : Wrote p done q
  pub says : text ≡ prepend done rest

pub nothing_done : {text : Maybe (List ℕ)} {p : Pen} → Midway text p p text
nothing_done {text} = record { done = []; wrote = wrote_none; says = sym (prepend_nothing text) }

pub some_done : {text : Maybe (List ℕ)} {p q : Pen} {t : List ℕ} {rest : Maybe (List ℕ)} {r : Pen} → Midway text p q (prepend t rest)
    → Wrote q t r → Midway text p r rest
some_done {t = t} {rest} m w = record { done = m.done ++ t; wrote = m.wrote ⨾ w; says = m.says ∙ prepend_twice m.done t rest }

pub left_says : {text : Maybe (List ℕ)} {p q : Pen} {rest more : Maybe (List ℕ)} → Midway text p q rest → rest ≡ more
    → Midway text p q more
left_says {text} {p} {q} m e = subst (λ (o : Maybe (List ℕ)). Midway text p q o) e m

pub all_done : {text : Maybe (List ℕ)} {p q : Pen} → Midway text p q (some []) → Value text p q
all_done m = record {
  value = m.done ++ [];
  says = m.says ∙ prepend_some m.done [];
  wrote = wrote_as m.wrote (sym (append-nil m.done));
}

pub none_left : {text : Maybe (List ℕ)} {p q : Pen} → Midway text p q none → text ≡ none
unfolding prepend
none_left m = m.says

-- ---- what the text says from a place e on

wrong_read : (b : ℕ) (s : List ℕ) → quoted_front (b ∷ s) ≡ wrong → characters quoted_front 0 (b ∷ s) ≡ none
unfolding characters
wrong_read b s h = rw h

line_end_is_wrong : (b : ℕ) (s : List ℕ) → (b ≡ quote → ⊥) → (b ≡ backslash → ⊥) → plain b ≡ false
    → quoted_front (b ∷ s) ≡ wrong
unfolding plain quoted_front
line_end_is_wrong b s q k p =
    let n = ne_eqb b quote q in
    let m = ne_eqb b backslash k in
    rw (n, m) (go (eqb b line_feed) (eqb b carriage_return) (rw (n, m) at p))
  where
    go : (l r : Bool) → not l && not r ≡ false → (if l || r then wrong else character (b ∷ []) 0) ≡ wrong
    go true r h = refl
    go false true h = refl
    go false false h = clash refl h

pub not_closed : (s : List ℕ) (e : ℕ) → length s ≤ e → characters quoted_front 0 (drop e s) ≡ none
unfolding characters
not_closed s e h = rw (drop_of_length-le s h)

module _ (s : List ℕ) (e : ℕ) (h : e < length s) where
  at_quote : get_or s e 0 ≡ quote → characters quoted_front 0 (drop e s) ≡ nothing_more (drop (e + 1) s)
  at_quote q = rw (drop_one s e h, q) (closing_read quoted_front 0 quote (drop (e + 1) s) (unfold quoted_front in refl))

  pub closed_at_the_end : get_or s e 0 ≡ quote → e + 1 ≡ length s → characters quoted_front 0 (drop e s) ≡ some []
  closed_at_the_end q l = at_quote q ∙ rw (drop_of_length-le s {i = e + 1} (omega arith)) (unfold nothing_more in refl)

  pub goes_on_when_closed : get_or s e 0 ≡ quote → (e + 1 ≡ length s → ⊥) → characters quoted_front 0 (drop e s) ≡ none
  goes_on_when_closed q l = at_quote q ∙ rw (drop_one s (e + 1) (omega arith)) (unfold nothing_more in refl)

  at_backslash : get_or s e 0 ≡ backslash → quoted_front (get_or s e 0 ∷ drop (e + 1) s) ≡ escape (drop (e + 1) s)
  at_backslash q = rw q (unfold quoted_front in refl)

  pub wrong_escape : get_or s e 0 ≡ backslash → escape (drop (e + 1) s) ≡ wrong → characters quoted_front 0 (drop e s) ≡ none
  wrong_escape q w = rw (drop_one s e h) (wrong_read (get_or s e 0) (drop (e + 1) s) (at_backslash q ∙ w))

  pub escape_read : (n k : ℕ) → get_or s e 0 ≡ backslash → Stands (drop (e + 1) s) (escape (drop (e + 1) s)) n k
      → characters quoted_front 0 (drop e s) ≡ prepend (encoded n) (characters quoted_front 0 (drop (e + 1 + k) s))
  escape_read n k q w =
      rw (drop_one s e h, ← drop-drop k (e + 1) s)
      (character_read quoted_front (encoded n) k (get_or s e 0) (drop (e + 1) s) (at_backslash q ∙ w.means))

  pub line_end : (get_or s e 0 ≡ quote → ⊥) → (get_or s e 0 ≡ backslash → ⊥) → plain (get_or s e 0) ≡ false
      → characters quoted_front 0 (drop e s) ≡ none
  line_end q k p =
      rw (drop_one s e h) (wrong_read (get_or s e 0) (drop (e + 1) s) (line_end_is_wrong (get_or s e 0) (drop (e + 1) s) q k p))
