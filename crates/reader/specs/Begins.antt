-- What reading a literal answers, by how the text begins.
use Rattle.std.specs.Prelude.{◌≡◌, Bool, true, false, not, List, [], ◌∷◌, ℕ, ◌<◌, length, drop, get_or}
use Rattle.std.proofs.Common.{eq-eqb, ne_eqb, refl, sym, ◌∙◌, not-suc-le-zero, arith}
use Rattle.std.proofs.Math.Option.{none}
use Rattle.base.specs.Bools.{not_true, not_false, clash}
use Rattle.meaning.specs.Ascii.{quote}
use Rattle.meaning.specs.Utf8.{utf8}
use Rattle.meaning.specs.Block.{three_quotes}
use Rattle.meaning.specs.Reading.{quoted_front, block_front, characters, as_quoted, as_block, string_value}
use Rattle.meaning.specs.Answers.{answer}
use Rattle.meaning.specs.Entries.{read_of, read_literal}

module _ (text out : List ℕ) where
  pub not_utf8 : (u : Bool) → u ≡ utf8 text → not u ≡ true → (answer 9 0 0, none, out) ≡ read_literal text out
  unfolding read_literal
  not_utf8 u e t = rw (sym e ∙ not_true u t)

  module _ (u : Bool) (e : u ≡ utf8 text) (g : not u ≡ false) where
    by_front : read_literal text out ≡ read_of (string_value text) out
    unfolding read_literal
    by_front = rw (sym e ∙ not_false u g)

    pub begins_with_three : (q : Bool) → q ≡ three_quotes text → q ≡ true → read_of (as_block (characters block_front 0 (drop 3 text))) out ≡ read_literal text out
    begins_with_three q f t = sym (by_front ∙ go text (sym f ∙ t))
      where
        go : (s : List ℕ) → three_quotes s ≡ true → read_of (string_value s) out ≡ read_of (as_block (characters block_front 0 (drop 3 s))) out
        go [] h = unfold three_quotes in clash h refl
        go (b ∷ s) h = unfold string_value in rw h

    module _ (q : Bool) (f : q ≡ three_quotes text) (z : q ≡ false) where
      pub is_empty_lem : length text ≡ 0 → (answer 9 0 0, none, out) ≡ read_literal text out
      is_empty_lem h = sym (by_front ∙ go text h)
        where
          go : (s : List ℕ) → length s ≡ 0 → read_of (string_value s) out ≡ (answer 9 0 0, none, out)
          go [] h = unfold string_value in refl
          go (b ∷ s) h = absurd (omega arith)

      pub begins_with_another : 0 < length text → (get_or text 0 0 ≡ quote → ⊥) → (answer 9 0 0, none, out) ≡ read_literal text out
      begins_with_another h n = sym (by_front ∙ go text (sym f ∙ z) h n)
        where
          go : (s : List ℕ) → three_quotes s ≡ false → 0 < length s → (get_or s 0 0 ≡ quote → ⊥) → read_of (string_value s) out ≡ (answer 9 0 0, none, out)
          go [] w h n = absurd (not-suc-le-zero h)
          go (b ∷ s) w h n = unfold string_value in rw (w, ne_eqb b quote n)

      pub begins_with_quote : 0 < length text → get_or text 0 0 ≡ quote → read_of (as_quoted (characters quoted_front 0 (drop 1 text))) out ≡ read_literal text out
      begins_with_quote h n = sym (by_front ∙ go text (sym f ∙ z) h n)
        where
          go : (s : List ℕ) → three_quotes s ≡ false → 0 < length s → get_or s 0 0 ≡ quote → read_of (string_value s) out ≡ read_of (as_quoted (characters quoted_front 0 (drop 1 s))) out
          go [] w h n = absurd (not-suc-le-zero h)
          go (b ∷ s) w h n = unfold string_value in rw (w, eq-eqb b quote n)
