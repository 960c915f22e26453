-- The raw text of a closed block string is its source up to the last three bytes, unescaped: the closing quotes end the text, and
-- cutting them off makes or breaks no `\"""` before them.
use Rattle.std.specs.Prelude.{◌≡◌, refl, Bool, ◌&&◌, List, [], ◌∷◌, ◌++◌, ℕ, zero, suc, ◌+◌, ◌-◌, ◌≤◌, eqb, length, take, drop, if◌then◌else◌}
use Rattle.std.proofs.Common.{sym, ap, ◌∙◌, arith, length-drop, eqb-true}
use Rattle.std.proofs.Math.Bool.{true, false}
use Rattle.std.proofs.Math.Option.{Option, none, some}
use Rattle.base.specs.Bools.{clash, and_left, and_right}
use Rattle.meaning.specs.Ascii.{backslash, triple_quote}
use Rattle.meaning.specs.Block.{three_quotes}
use Rattle.meaning.specs.Reading.{character, closing, block_front, prepend, nothing_more, on_front, characters}
use Rattle.literal_laws.specs.Grammar.{nothing_left}
use Rattle.literal_laws.specs.Quotes.{three_quotes_are_long, three_quotes_are}

-- a backslash and three quotes stand at the front
unfoldable pub escapes : List ℕ → Bool
escapes [] = false
escapes (b ∷ s) = eqb b backslash && three_quotes s

-- `\"""` is `"""`; the number counts the bytes to be passed over
unfoldable pub unescaped_after : ℕ → List ℕ → List ℕ
unfolding escapes
unescaped_after k [] = []
unescaped_after zero (b ∷ s) =
    let quotes = triple_quote ++ unescaped_after 3 s in
    let byte = b ∷ unescaped_after 0 s in
    if escapes (b ∷ s) then quotes else byte
unescaped_after (suc k) (b ∷ s) = unescaped_after k s

abbrev pub unescaped : List ℕ → List ℕ
unescaped s = unescaped_after 0 s

passed_over : (k : ℕ) (s : List ℕ) → unescaped_after k s ≡ unescaped (drop k s)
unfolding unescaped_after
passed_over zero s = refl
passed_over (suc k) [] = refl
passed_over (suc k) (b ∷ s) = passed_over k s

pub byte_unescaped : (b : ℕ) (s : List ℕ) → escapes (b ∷ s) ≡ false → unescaped (b ∷ s) ≡ b ∷ unescaped s
unfolding unescaped_after
byte_unescaped b s e = rw e

pub quotes_unescaped : (b : ℕ) (s : List ℕ) → escapes (b ∷ s) ≡ true → unescaped (b ∷ s) ≡ triple_quote ++ unescaped (drop 3 s)
unfolding unescaped_after
quotes_unescaped b s e = rw (e, passed_over 3 s)

pub escape_is : (b : ℕ) (s : List ℕ) → escapes (b ∷ s) ≡ true → (b ≡ backslash) × (s ≡ triple_quote ++ drop 3 s)
unfolding escapes
escape_is b s e =
    let first = and_left (eqb b backslash) (three_quotes s) e in
    let others = and_right (eqb b backslash) (three_quotes s) e in
    (eqb-true b backslash first, three_quotes_are s others)

pub escape_is_long : (b : ℕ) (s : List ℕ) → escapes (b ∷ s) ≡ true → 3 ≤ length s
escape_is_long b s e = omega (arith, ap length (escape_is b s e).1)

-- ---- cut off at the end

three_quotes_in_front_part : (n : ℕ) (s : List ℕ) → 3 ≤ n → three_quotes (take n s) ≡ three_quotes s
unfolding three_quotes
three_quotes_in_front_part zero s h = absurd (omega arith)
three_quotes_in_front_part (suc zero) s h = absurd (omega arith)
three_quotes_in_front_part (suc (suc zero)) s h = absurd (omega arith)
three_quotes_in_front_part (suc (suc (suc n))) [] h = refl
three_quotes_in_front_part (suc (suc (suc n))) (a ∷ []) h = refl
three_quotes_in_front_part (suc (suc (suc n))) (a ∷ (b ∷ [])) h = refl
three_quotes_in_front_part (suc (suc (suc n))) (a ∷ (b ∷ (c ∷ s))) h = refl

no_three_quotes_in_front_part : (n : ℕ) (s : List ℕ) → three_quotes s ≡ false → three_quotes (take n s) ≡ false
unfolding three_quotes
no_three_quotes_in_front_part zero s h = refl
no_three_quotes_in_front_part (suc n) [] h = refl
no_three_quotes_in_front_part (suc zero) (a ∷ s) h = refl
no_three_quotes_in_front_part (suc (suc n)) (a ∷ []) h = refl
no_three_quotes_in_front_part (suc (suc zero)) (a ∷ (b ∷ s)) h = refl
no_three_quotes_in_front_part (suc (suc (suc n))) (a ∷ (b ∷ [])) h = refl
no_three_quotes_in_front_part (suc (suc (suc n))) (a ∷ (b ∷ (c ∷ s))) h = h

escape_in_front_part : (n b : ℕ) (s : List ℕ) → 3 ≤ n → escapes (b ∷ take n s) ≡ escapes (b ∷ s)
unfolding escapes
escape_in_front_part n b s h = rw (three_quotes_in_front_part n s h)

no_escape_in_front_part : (n b : ℕ) (s : List ℕ) → escapes (b ∷ s) ≡ false → escapes (b ∷ take n s) ≡ false
unfolding escapes
no_escape_in_front_part n b s h = go (eqb b backslash) h
  where
    go : (x : Bool) → x && three_quotes s ≡ false → x && three_quotes (take n s) ≡ false
    go true h = no_three_quotes_in_front_part n s h
    go false h = refl

-- ---- what was read

-- something was read
abbrev pub is_some : Option (List ℕ) → Bool
is_some none = false
is_some (some v) = true

-- k bytes are passed over before the closing quotes, and before these the source says v
pub record Closed (k : ℕ) (s v : List ℕ) : Type 0 where
  pub long : k + 3 ≤ length s
  pub says : v ≡ unescaped_after k (take (length s - 3) s)

front_part_one_more : (b : ℕ) (s : List ℕ) → 3 ≤ length s → take (length (b ∷ s) - 3) (b ∷ s) ≡ b ∷ take (length s - 3) s
front_part_one_more b s h = let e : suc (length s) - 3 ≡ suc (length s - 3) = omega arith in rw e

prepended : (u : List ℕ) (o : Option (List ℕ)) (v : List ℕ) → prepend u o ≡ some v → (w : List ℕ) × (o ≡ some w) × (v ≡ u ++ w)
unfolding prepend
prepended u none v h = clash refl (ap is_some (sym h))
prepended u (some w) v h = let e : u ++ w ≡ v = cc in (w, refl, sym e)

pub closed_text : (k : ℕ) (s v : List ℕ) → characters block_front k s ≡ some v → Closed k s v
unfolding characters block_front escapes
closed_text k [] v h = clash refl (ap is_some (sym h))
closed_text zero (b ∷ s) v h =
    go (three_quotes (b ∷ s)) refl (escapes (b ∷ s)) refl h (λ w. closed_text 3 s w) (λ w. closed_text 0 s w)
  where
    closing_quotes : three_quotes (b ∷ s) ≡ true → nothing_more (drop 2 s) ≡ some v → Closed 0 (b ∷ s) v
    closing_quotes e h =
        let n = nothing_left (drop 2 s) v h in
        let l : length s ≡ 2 = omega (arith, three_quotes_are_long b s e, length-drop 2 s, ap length n.0) in
        record { long = omega arith; says = n.1 ∙ rw l (unfold unescaped_after in refl) }

    escape : escapes (b ∷ s) ≡ true → (w : List ℕ) → Closed 3 s w → v ≡ triple_quote ++ w → Closed 0 (b ∷ s) v
    escape e w c q =
        let t : List ℕ = take (length s - 3) s in
        let f : escapes (b ∷ t) ≡ true = escape_in_front_part (length s - 3) b s (omega (arith, c.long)) ∙ e in
        record {
          long = omega (arith, c.long);
          says = rw (front_part_one_more b s (omega (arith, c.long)))
              (q ∙ rw (c.says, passed_over 3 t) (sym (quotes_unescaped b t f)));
        }

    byte : escapes (b ∷ s) ≡ false → (w : List ℕ) → Closed 0 s w → v ≡ b ∷ w → Closed 0 (b ∷ s) v
    byte e w c q =
        let t : List ℕ = take (length s - 3) s in
        record {
          long = omega (arith, c.long);
          says = rw (front_part_one_more b s (omega (arith, c.long)))
              (q ∙ rw c.says (sym (byte_unescaped b t (no_escape_in_front_part (length s - 3) b s e))));
        }

    go : (x : Bool) → three_quotes (b ∷ s) ≡ x → (y : Bool) → escapes (b ∷ s) ≡ y
        → on_front (if x then closing 2 else if y then character triple_quote 3 else character (b ∷ []) 0) s
        (λ k. characters block_front k s)
        ≡ some v
        → ((w : List ℕ) → characters block_front 3 s ≡ some w → Closed 3 s w)
        → ((w : List ℕ) → characters block_front 0 s ≡ some w → Closed 0 s w) → Closed 0 (b ∷ s) v
    go true e y f h i j = closing_quotes e (unfold on_front in h)
    go false e true f h i j =
        let p = prepended triple_quote (characters block_front 3 s) v (unfold on_front in h) in
        escape f p.0 (i p.0 p.1) p.2
    go false e false f h i j =
        let p = prepended (b ∷ []) (characters block_front 0 s) v (unfold on_front in h) in
        byte f p.0 (j p.0 p.1) p.2
closed_text (suc k) (b ∷ s) v h =
    let c = closed_text k s v h in
    record {
      long = omega (arith, c.long);
      says = c.says ∙ sym (rw (front_part_one_more b s (omega (arith, c.long))) (unfold unescaped_after in refl));
    }
