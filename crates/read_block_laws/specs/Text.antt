-- What is written of a source, a piece at a time: bytes up to a line end or an escape stand for themselves, an escape is three
-- quotes, and a line end is LF, behind which at most n blanks of the next line are left out.
use Rattle.std.specs.Prelude.{◌≡◌, Bool, true, ◌&&◌, ◌||◌, ℕ, zero, suc, min, ◌+◌, ◌-◌, ◌≤◌, ◌<◌, eqb, length, take, drop, get_or, if◌then◌else◌}
use Rattle.std.proofs.Common.{List, [], ◌∷◌, ◌++◌, map, eq-eqb, ne_eqb, refl, ap, sym, ◌∙◌, add-one, arith, length-drop, drop_of_length-le, drop-cons, drop-drop}
use Rattle.std.proofs.Math.Bool.{false}
use Rattle.base.specs.Bools.{clash, and_false, or_left_false, or_right_false}
use Rattle.meaning.specs.Ascii.{line_feed, carriage_return, backslash, triple_quote}
use Rattle.meaning.specs.Settings.{is_blank}
use Rattle.meaning.specs.Block.{onto, indent, three_quotes, raw_lines_after, joined}
use Rattle.literal_laws.specs.Lines.{Some}
use Rattle.read_block_laws.specs.Unescaped.{escapes, unescaped_after, unescaped, byte_unescaped, escape_is, escape_is_long}
use Rattle.read_block_laws.specs.FirstLine.{is_line_end, line_end_is_no_blank, line_length, lines_of, other_lines, byte_before_lines, line_end_before_lines, first_line_and_others, there_is_a_line, first_line_indent}
use Rattle.read_block_laws.specs.LinesUnescaped.{escape_in_first_line}
use Rattle.read_block_laws.specs.Outdented.{outdented, line_text}

-- the first line whole, and the others less at most n blanks
unfoldable pub text_lines : ℕ → List (List ℕ) → List (List ℕ)
text_lines n [] = []
text_lines n (l ∷ ls) = unescaped l ∷ map (line_text n) ls

unfoldable pub text_of : ℕ → List ℕ → List ℕ
unfolding text_lines
text_of n s = joined (text_lines n (lines_of s))

text_by_lines : (n : ℕ) (s l : List ℕ) (ls : List (List ℕ)) → lines_of s ≡ l ∷ ls
    → text_of n s ≡ joined (unescaped l ∷ map (line_text n) ls)
unfolding text_of
text_by_lines n s l ls e = rw e

text_by_first : (n : ℕ) (s : List ℕ)
    → text_of n s ≡ joined (unescaped (take (line_length s) s) ∷ map (line_text n) (other_lines (drop (line_length s) s)))
text_by_first n s = text_by_lines n s (take (line_length s) s) (other_lines (drop (line_length s) s)) (first_line_and_others s)

-- ---- a byte, an escape

joined_after_byte : (b : ℕ) (l : List ℕ) (ls : List (List ℕ)) → joined ((b ∷ l) ∷ ls) ≡ b ∷ joined (l ∷ ls)
unfolding joined
joined_after_byte b l [] = refl
joined_after_byte b l (m ∷ ls) = refl

byte_first : (b : ℕ) (s : List ℕ) → is_line_end b ≡ false
    → lines_of (b ∷ s) ≡ (b ∷ take (line_length s) s) ∷ other_lines (drop (line_length s) s)
byte_first b s e = byte_before_lines false b s e ∙ ap (onto b) (first_line_and_others s) ∙ (unfold onto in refl)

byte_text : (n b : ℕ) (s : List ℕ) → is_line_end b ≡ false → escapes (b ∷ s) ≡ false → text_of n (b ∷ s) ≡ b ∷ text_of n s
byte_text n b s e f =
    let l : List ℕ = take (line_length s) s in
    let ls : List (List ℕ) = other_lines (drop (line_length s) s) in
    text_by_lines n (b ∷ s) (b ∷ l) ls (byte_first b s e)
    ∙ rw (byte_unescaped b l (escape_in_first_line b s ∙ f)) (joined_after_byte b (unescaped l) (map (line_text n) ls))
    ∙ sym (ap (λ (t : List ℕ). b ∷ t) (text_by_first n s))

joined_after_quotes : (l : List ℕ) (ls : List (List ℕ)) → joined ((triple_quote ++ l) ∷ ls) ≡ triple_quote ++ joined (l ∷ ls)
unfolding joined
joined_after_quotes l [] = refl
joined_after_quotes l (m ∷ ls) = refl

escape_first : (s : List ℕ)
    → lines_of (backslash ∷ (triple_quote ++ s))
    ≡ (backslash ∷ (triple_quote ++ take (line_length s) s)) ∷ other_lines (drop (line_length s) s)
escape_first s = unfold raw_lines_after onto in rw (first_line_and_others s)

escape_line : (l : List ℕ) → unescaped (backslash ∷ (triple_quote ++ l)) ≡ triple_quote ++ unescaped l
unfolding unescaped_after three_quotes
escape_line l = refl

known_escape_text : (n : ℕ) (s : List ℕ) → text_of n (backslash ∷ (triple_quote ++ s)) ≡ triple_quote ++ text_of n s
known_escape_text n s =
    let l : List ℕ = take (line_length s) s in
    let ls : List (List ℕ) = other_lines (drop (line_length s) s) in
    text_by_lines n (backslash ∷ (triple_quote ++ s)) (backslash ∷ (triple_quote ++ l)) ls (escape_first s)
    ∙ rw (escape_line l) (joined_after_quotes (unescaped l) (map (line_text n) ls))
    ∙ sym (ap (λ (t : List ℕ). triple_quote ++ t) (text_by_first n s))

pub escape_text : (n b : ℕ) (s : List ℕ) → escapes (b ∷ s) ≡ true → text_of n (b ∷ s) ≡ triple_quote ++ text_of n (drop 3 s)
escape_text n b s e =
    let p = escape_is b s e in
    ap (λ (x : ℕ). text_of n (x ∷ s)) p.0
    ∙ ap (λ (x : List ℕ). text_of n (backslash ∷ x)) p.1
    ∙ known_escape_text n (drop 3 s)

-- ---- a line end

-- how many bytes the line end at the front takes: CR LF is one
unfoldable pub end_length : List ℕ → ℕ
end_length [] = 0
end_length (b ∷ []) = 1
end_length (b ∷ (c ∷ s)) = if eqb b carriage_return && eqb c line_feed then 2 else 1

others_after_cr : (b c : ℕ) (s : List ℕ) (x : Bool) → eqb c line_feed ≡ x
    → raw_lines_after true (c ∷ s) ≡ lines_of (drop (if x then 2 else 1) (b ∷ (c ∷ s)))
others_after_cr b c s true e = unfold raw_lines_after in rw e
others_after_cr b c s false e = unfold raw_lines_after in rw e

others_are_lines : (b : ℕ) (s : List ℕ) → other_lines (b ∷ s) ≡ lines_of (drop (end_length (b ∷ s)) (b ∷ s))
unfolding other_lines end_length
others_are_lines b [] = go (eqb b carriage_return)
  where
    go : (x : Bool) → raw_lines_after x [] ≡ lines_of []
    go x = unfold raw_lines_after in refl
others_are_lines b (c ∷ s) = go (eqb b carriage_return)
  where
    go : (x : Bool) → raw_lines_after x (c ∷ s) ≡ lines_of (drop (if x && eqb c line_feed then 2 else 1) (b ∷ (c ∷ s)))
    go true = others_after_cr b c s (eqb c line_feed) refl
    go false = refl

lines_past_blanks : (k : ℕ) (s : List ℕ) → k ≤ indent s
    → lines_of (drop k s) ≡ drop k (take (line_length s) s) ∷ other_lines (drop (line_length s) s)
unfolding indent line_length
lines_past_blanks zero s h = first_line_and_others s
lines_past_blanks (suc k) [] h = absurd (omega arith)
lines_past_blanks (suc k) (b ∷ s) h = go (is_blank b) refl h (lines_past_blanks k s)
  where
    go : (x : Bool) → is_blank b ≡ x → suc k ≤ (if x then suc (indent s) else 0)
        → (k ≤ indent s → lines_of (drop k s) ≡ drop k (take (line_length s) s) ∷ other_lines (drop (line_length s) s))
        → lines_of (drop k s)
        ≡ drop (suc k) (take (if is_line_end b then 0 else suc (line_length s)) (b ∷ s))
        ∷ other_lines (drop (if is_line_end b then 0 else suc (line_length s)) (b ∷ s))
    go true e h ih = rw (line_end_is_no_blank b e) (ih (omega arith))
    go false e h ih = absurd (omega arith)

-- every line less at most n blanks: the first one too
pub outdented_text : (n : ℕ) (s : List ℕ) → joined (map (line_text n) (lines_of s)) ≡ text_of n (drop (min n (indent s)) s)
outdented_text n s =
    let k = min n (indent s) in
    let l : List ℕ = take (line_length s) s in
    let ls : List (List ℕ) = other_lines (drop (line_length s) s) in
    let o : outdented n l ≡ drop k l = unfold outdented in rw (first_line_indent s) in
    rw (first_line_and_others s, o) (sym (text_by_lines n (drop k s) (drop k l) ls (lines_past_blanks k s (omega arith))))

joined_after_empty : (ls : List (List ℕ)) → Some ls → joined ([] ∷ ls) ≡ line_feed ∷ joined ls
unfolding joined
joined_after_empty [] o = absurd o
joined_after_empty (l ∷ ls) o = refl

pub line_end_text : (n b : ℕ) (s t : List ℕ) → is_line_end b ≡ true → t ≡ drop (end_length (b ∷ s)) (b ∷ s)
    → text_of n (b ∷ s) ≡ line_feed ∷ text_of n (drop (min n (indent t)) t)
line_end_text n b s t e d =
    let o : other_lines (b ∷ s) ≡ lines_of t = others_are_lines b s ∙ rw (← d) in
    let ls : List (List ℕ) = map (line_text n) (lines_of t) in
    let z : unescaped [] ≡ [] = unfold unescaped_after in refl in
    text_by_lines n (b ∷ s) [] (lines_of t) (line_end_before_lines b s e ∙ rw o)
    ∙ rw (z, joined_after_empty ls (some_map (lines_of t) (there_is_a_line false t)), outdented_text n t)
  where
    some_map : (ls : List (List ℕ)) → Some ls → Some (map (line_text n) ls)
    some_map [] o = o
    some_map (l ∷ ls) o = tt

-- ---- a run of bytes that stand for themselves

-- a line end or an escape stands at the front
unfoldable pub stops : List ℕ → Bool
unfolding is_line_end escapes
stops [] = false
stops (b ∷ s) = is_line_end b || escapes (b ∷ s)

unfoldable pub run_length : List ℕ → ℕ
unfolding stops
run_length [] = 0
run_length (b ∷ s) = let n = suc (run_length s) in if stops (b ∷ s) then 0 else n

pub run_within : (s : List ℕ) → run_length s ≤ length s
unfolding run_length
run_within [] = omega arith
run_within (b ∷ s) = go (stops (b ∷ s)) (run_within s)
  where
    go : (x : Bool) → run_length s ≤ length s → (if x then 0 else suc (run_length s)) ≤ length (b ∷ s)
    go true h = omega arith
    go false h = omega arith

pub run_text : (n : ℕ) (s : List ℕ) → text_of n s ≡ take (run_length s) s ++ text_of n (drop (run_length s) s)
unfolding run_length
run_text n [] = refl
run_text n (b ∷ s) = go (stops (b ∷ s)) refl (run_text n s)
  where
    go : (x : Bool) → stops (b ∷ s) ≡ x → text_of n s ≡ take (run_length s) s ++ text_of n (drop (run_length s) s)
        → text_of n (b ∷ s)
        ≡ take (if x then 0 else suc (run_length s)) (b ∷ s) ++ text_of n (drop (if x then 0 else suc (run_length s)) (b ∷ s))
    go true e ih = refl
    go false e ih =
        let no_end : is_line_end b ≡ false = unfold stops in or_left_false (is_line_end b) (escapes (b ∷ s)) e in
        let no_escape : escapes (b ∷ s) ≡ false = unfold stops in or_right_false (is_line_end b) (escapes (b ∷ s)) e in
        byte_text n b s no_end no_escape ∙ ap (λ (t : List ℕ). b ∷ t) ih

pub run_stops : (s : List ℕ) → run_length s < length s → stops (drop (run_length s) s) ≡ true
unfolding run_length
run_stops [] h = absurd (omega arith)
run_stops (b ∷ s) h = go (stops (b ∷ s)) refl h (run_stops s)
  where
    go : (x : Bool) → stops (b ∷ s) ≡ x → (if x then 0 else suc (run_length s)) < suc (length s)
        → (run_length s < length s → stops (drop (run_length s) s) ≡ true)
        → stops (drop (if x then 0 else suc (run_length s)) (b ∷ s)) ≡ true
    go true e h ih = e
    go false e h ih = ih (omega arith)

-- ---- by places

module _ (n : ℕ) (s : List ℕ) (i e : ℕ) (a : e ≡ i + run_length (drop i s)) where
  pub run_is_written : text_of n (drop i s) ≡ take (e - i) (drop i s) ++ text_of n (drop e s)
  run_is_written =
      let r : e - i ≡ run_length (drop i s) = omega arith in
      let d : drop (run_length (drop i s)) (drop i s) ≡ drop e s = drop-drop (run_length (drop i s)) i s ∙ rw (← a) in
      run_text n (drop i s) ∙ rw (d, r)

  stops_there : e < length s → stops (drop e s) ≡ true
  stops_there h =
      let d : drop (run_length (drop i s)) (drop i s) ≡ drop e s = drop-drop (run_length (drop i s)) i s ∙ rw (← a) in
      rw d at (run_stops (drop i s) (omega (arith, length-drop i s)))

  stops_by_byte : e < length s → is_line_end (get_or s e 0) || escapes (get_or s e 0 ∷ drop (suc e) s) ≡ true
  unfolding stops
  stops_by_byte h = rw (drop-cons s e 0 h) at (stops_there h)

  escape_there : e < length s → get_or s e 0 ≡ backslash → escapes (get_or s e 0 ∷ drop (suc e) s) ≡ true
  escape_there h b = go (is_line_end (get_or s e 0)) refl (stops_by_byte h)
    where
      go : (x : Bool) → is_line_end (get_or s e 0) ≡ x → x || escapes (get_or s e 0 ∷ drop (suc e) s) ≡ true
          → escapes (get_or s e 0 ∷ drop (suc e) s) ≡ true
      go true f g = clash (ap is_line_end (sym b) ∙ f) (unfold is_line_end in refl)
      go false f g = g

  line_end_there : e < length s → (get_or s e 0 ≡ backslash → ⊥) → is_line_end (get_or s e 0) ≡ true
  line_end_there h b = go (is_line_end (get_or s e 0)) (stops_by_byte h)
    where
      no_escape_lem : escapes (get_or s e 0 ∷ drop (suc e) s) ≡ false
      no_escape_lem = unfold escapes in rw (ne_eqb (get_or s e 0) backslash b)

      go : (x : Bool) → x || escapes (get_or s e 0 ∷ drop (suc e) s) ≡ true → x ≡ true
      go true g = refl
      go false g = clash g no_escape_lem

  pub escape_is_written : e < length s → get_or s e 0 ≡ backslash → text_of n (drop e s) ≡ triple_quote ++ text_of n (drop (e + 4) s)
  escape_is_written h b =
      let m : suc e + 3 ≡ e + 4 = omega arith in
      rw (drop-cons s e 0 h)
      (escape_text n (get_or s e 0) (drop (suc e) s) (escape_there h b) ∙ rw (drop-drop 3 (suc e) s, m))

  pub escape_is_within : e < length s → get_or s e 0 ≡ backslash → e + 4 ≤ length s
  escape_is_within h b = omega (arith, escape_is_long (get_or s e 0) (drop (suc e) s) (escape_there h b), length-drop (suc e) s)

  pub line_end_is_written : e < length s → (get_or s e 0 ≡ backslash → ⊥) → (f g : ℕ) → f ≡ e + end_length (drop e s)
      → g ≡ f + min n (indent (drop f s)) → text_of n (drop e s) ≡ (line_feed ∷ []) ++ text_of n (drop g s)
  line_end_is_written h b f g p q =
      let t : List ℕ = drop f s in
      let d : drop e s ≡ get_or s e 0 ∷ drop (suc e) s = drop-cons s e 0 h in
      let u : t ≡ drop (end_length (get_or s e 0 ∷ drop (suc e) s)) (get_or s e 0 ∷ drop (suc e) s) =
      sym (rw (← d) (drop-drop (end_length (drop e s)) e s ∙ rw (← p))) in
      let v : drop (min n (indent t)) t ≡ drop g s = drop-drop (min n (indent t)) f s ∙ rw (← q) in
      rw d (line_end_text n (get_or s e 0) (drop (suc e) s) t (line_end_there h b) u ∙ rw v)

pub nothing_is_written : (n : ℕ) (s : List ℕ) (i : ℕ) → length s ≤ i → text_of n (drop i s) ≡ []
nothing_is_written n s i h = rw (drop_of_length-le s h) (unfold text_of unescaped_after raw_lines_after joined in refl)

-- the line end at e takes a byte at least, and stands within the text
pub end_length_lem : (t : List ℕ) → 0 < length t → (0 < end_length t) × (end_length t ≤ length t)
unfolding end_length
end_length_lem [] h = absurd (omega arith)
end_length_lem (b ∷ []) h = (omega arith, omega arith)
end_length_lem (b ∷ (c ∷ t)) h = go (eqb b carriage_return && eqb c line_feed)
  where
    go : (x : Bool) → (0 < (if x then 2 else 1)) × ((if x then 2 else 1) ≤ length (b ∷ (c ∷ t)))
    go true = (omega arith, omega arith)
    go false = (omega arith, omega arith)

pub line_end_within : (s : List ℕ) (e : ℕ) → e < length s → (e < e + end_length (drop e s)) × (e + end_length (drop e s) ≤ length s)
line_end_within s e h =
    let l = length-drop e s in
    let k = end_length_lem (drop e s) (omega arith) in
    (omega (arith, k.0), omega (arith, k.1))

pub stops_by : (s : List ℕ) (i : ℕ) → i < length s → is_line_end (get_or s i 0) || escapes (drop i s) ≡ stops (drop i s)
unfolding stops
stops_by s i h = rw (drop-cons s i 0 h)

-- the line end at e takes one byte or two
module _ (s : List ℕ) (e : ℕ) (h : e < length s) where
  pub line_end_without_cr : (get_or s e 0 ≡ carriage_return → ⊥) → e + 1 ≡ e + end_length (drop e s)
  line_end_without_cr k = rw (drop-cons s e 0 h) (go (drop (suc e) s))
    where
      go : (t : List ℕ) → e + 1 ≡ e + end_length (get_or s e 0 ∷ t)
      go [] = unfold end_length in refl
      go (c ∷ t) = unfold end_length in rw (ne_eqb (get_or s e 0) carriage_return k)

  pub line_end_at_the_end : e + 1 ≡ length s → e + 1 ≡ e + end_length (drop e s)
  line_end_at_the_end k =
      let z : length s ≤ suc e = omega arith in
      rw (drop-cons s e 0 h, drop_of_length-le s z) (unfold end_length in refl)

  two_bytes_lem : e + 1 < length s → drop e s ≡ get_or s e 0 ∷ (get_or s (e + 1) 0 ∷ drop (suc (suc e)) s)
  two_bytes_lem k =
      let n : e + 1 ≡ suc e = add-one e in
      let k' : suc e < length s = omega arith in
      rw (drop-cons s e 0 h, drop-cons s (suc e) 0 k', n)

  pub line_end_without_lf : e + 1 < length s → (get_or s (e + 1) 0 ≡ line_feed → ⊥) → e + 1 ≡ e + end_length (drop e s)
  unfolding end_length
  line_end_without_lf k f = rw (two_bytes_lem k, ne_eqb (get_or s (e + 1) 0) line_feed f, and_false (eqb (get_or s e 0) carriage_return))

  pub cr_lf_is_one : e + 1 < length s → get_or s e 0 ≡ carriage_return → get_or s (e + 1) 0 ≡ line_feed
      → e + 1 + 1 ≡ e + end_length (drop e s)
  unfolding end_length
  cr_lf_is_one k p q = rw (two_bytes_lem k, eq-eqb (get_or s e 0) carriage_return p, eq-eqb (get_or s (e + 1) 0) line_feed q) (omega arith)
