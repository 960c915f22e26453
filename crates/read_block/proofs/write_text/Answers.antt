-- `read_block::write_text`: a run is written as it stands, an escape as three quotes, and a line end, with the blanks behind it, as LF.
use Rattle.std.proofs.Common.{◌≡◌, refl, sym, ◌∙◌, ap, true, false, ◌||◌, Bool, arith, ℕ, List, [], ◌∷◌, ◌++◌, min, ◌≤◌, ◌<◌, length, take, drop, length-drop}
use Rattle.base.specs.Bools.{clash}
use Rattle.meaning.specs.Ascii.{line_feed, triple_quote}
use Rattle.meaning.specs.Block.{indent}
use Rattle.pen.specs.declared.Pen.{Pen}
use Rattle.pen.specs.Wrote.{Wrote, Left, left_step, left_done, left_as}
use Rattle.read_block_laws.specs.Unescaped.{escapes}
use Rattle.read_block_laws.specs.FirstLine.{is_line_end}
use Rattle.read_block_laws.specs.Text.{stops, run_length, run_text, run_stops, escape_text, line_end_text, nothing_is_written, end_length, end_length_lem, text_of}
use Rattle.read_block.proofs.Parts.{from, from_is}
use Rattle.read_block.proofs.write_text.Goals as goal

escape_written : (n : ℕ) (t : List ℕ) → escapes t ≡ true → text_of n t ≡ triple_quote ++ text_of n (from t 4)
escape_written n [] e = let z : escapes [] ≡ false = unfold escapes in refl in clash e z
escape_written n (b ∷ t) e = rw (from_is (b ∷ t) 4) (escape_text n b t e)

line_end_written : (n : ℕ) (t u g : List ℕ) → 1 ≤ length t → stops t ≡ true → escapes t ≡ false → u ≡ drop (end_length t) t
    → g ≡ drop (min n (indent u)) u → text_of n t ≡ (line_feed ∷ []) ++ text_of n g
unfolding stops
line_end_written n [] u g h e f p q = absurd (omega arith)
line_end_written n (b ∷ t) u g h e f p q = rw q (line_end_text n b t u (go (is_line_end b) (rw f at e)) p)
  where
    go : (x : Bool) → x || false ≡ true → x ≡ true
    go true e = refl
    go false e = e

-- a run r of s is written, behind which t stands
module _ (n e : ℕ) (s r t w : List ℕ) (p o q : Pen) (a : Left p w o (text_of n s)) (l : e ≡ run_length s) (x : r ≡ take e s) (y : t ≡ drop e s)
    (v : Wrote o r q) where
  run_written : Left p w q (text_of n t)
  run_written =
      let whole : text_of n s ≡ r ++ text_of n t = rw (x, y, l) (run_text n s) in
      left_step (left_as a whole) v

  nothing_left : length t < 1 → Wrote p w q
  nothing_left h = left_done (left_as run_written (nothing_is_written n t 0 (omega (arith, h))))

  module _ (h : 1 ≤ length t) where
    past_escape : escapes t ≡ true → (z : Pen) → Wrote q triple_quote z → Left p w z (text_of n (from t 4))
    past_escape f z k = left_step (left_as run_written (escape_written n t f)) k

    there : stops t ≡ true
    there = rw (y, l) (run_stops s (omega (arith, ap length y, l, length-drop e s)))

    past_line_end : escapes t ≡ false → (u g : List ℕ) → u ≡ drop (end_length t) t → g ≡ drop (min n (indent u)) u
        → (z : Pen) → Wrote q (line_feed ∷ []) z → Left p w z (text_of n g)
    past_line_end f u g i j z k = left_step (left_as run_written (line_end_written n t u g h there f i j)) k

    shorter : (u g : List ℕ) → u ≡ drop (end_length t) t → g ≡ drop (min n (indent u)) u → length g < length s
    shorter u g i j =
        let b = end_length_lem t (omega (arith, h)) in
        omega (arith, b.0, ap length i, ap length j, ap length y, length-drop (end_length t) t, length-drop (min n (indent u)) u, length-drop e s)

pub returns-in-empty : goal.returns-in-empty
returns-in-empty c =
    nothing_left _ _ _ _ _ _ _ _ _ c.loop-others.invariant c.run_length.ensures.value c.split_at.ensures.front c.split_at.ensures.back c.write.ensures c.in-empty.len_below

pub loop-others-preserved-then-is_escape : goal.loop-others-preserved-then-is_escape
loop-others-preserved-then-is_escape c =
    past_escape _ _ _ _ _ _ _ _ _ c.loop-others.invariant c.run_length.ensures.value c.split_at.ensures.front c.split_at.ensures.back c.write.ensures
    c.in_default.len_at_least (sym c.is_escape.ensures.value ∙ c.if-is_escape.true) _ c.write-in_default.ensures

pub loop-others-smaller : goal.loop-others-smaller
loop-others-smaller c =
    shorter _ _ _ _ _ _ _ _ _ c.loop-others.invariant c.run_length.ensures.value c.split_at.ensures.front c.split_at.ensures.back c.write.ensures
    c.in_default.len_at_least _ _ c.past_line_end.ensures c.past_indent-rest.ensures

pub loop-others-preserved : goal.loop-others-preserved
loop-others-preserved c =
    past_line_end _ _ _ _ _ _ _ _ _ c.loop-others.invariant c.run_length.ensures.value c.split_at.ensures.front c.split_at.ensures.back c.write.ensures
    c.in_default.len_at_least (sym c.is_escape.ensures.value ∙ c.if-is_escape.false) _ _ c.past_line_end.ensures c.past_indent-rest.ensures _ c.write_byte.ensures
