-- The block rule by places: a line runs from its start to the next line end; it is blank if its first text is its end, and begins with
-- text if its first text is its start. Blanks are no line ends, so the end is looked for behind them.
use Rattle.std.specs.Prelude.{◌≡◌, refl, Bool, true, false, not, ◌&&◌, ◌||◌, List, [], ◌∷◌, ℕ, suc, ◌+◌, ◌-◌, ◌≤◌, ◌<◌, eqb, length, take, drop, get_or, if◌then◌else◌}
use Rattle.std.proofs.Common.{sym, ap, ◌∙◌, arith, drop_of_length-le, drop-drop, eqb-true, eq-eqb, ne_eqb}
use Rattle.std.proofs.Math.Bool.{and_comm}
use Rattle.std.proofs.Math.Dec.{eqb-zero-suc, eqb-suc-zero, eqb-suc-suc}
use Rattle.std.proofs.lemmas.Bool.{eqb-false}
use Rattle.base.specs.Bools.{clash, and_false}
use Rattle.meaning.specs.Ascii.{line_feed, carriage_return}
use Rattle.meaning.specs.Settings.{is_blank, blank}
use Rattle.meaning.specs.Block.{has}
use Rattle.literal_laws.specs.BlockText.{blank_is_no_other}
use Rattle.pen.specs.Lists.{drop_one}
use Rattle.block.specs.Places.{up_to, byte_that, is, is_text, is_line_end, First}
use Rattle.block.specs.ByLine.{one_line_left, more_lines_left}
use Rattle.block.specs.Rule.{unindented, remaining, carriage_return_remains, last_line_remains, blank_line_remains, line_remains}

-- ---- a line from its start on

-- the distances to the first text, the next line end and the next LF
abbrev to_text : List ℕ → ℕ
to_text v = up_to (byte_that is_text) v

abbrev to_end : List ℕ → ℕ
to_end v = up_to (byte_that is_line_end) v

abbrev to_line_feed : List ℕ → ℕ
to_line_feed v = up_to (byte_that (is line_feed)) v

blank_is_no_line_end : (b : ℕ) → is_blank b ≡ true → is_line_end b ≡ false
blank_is_no_line_end b h =
    rw (
      blank_is_no_other b line_feed h (λ z. omega arith) (λ z. omega arith),
      blank_is_no_other b carriage_return h (λ z. omega arith) (λ z. omega arith),
    )

end_behind_blanks : (v : List ℕ) → to_text v + to_end (drop (to_text v) v) ≡ to_end v
unfolding up_to
end_behind_blanks [] = omega arith
end_behind_blanks (b ∷ v) = go (is_blank b) refl (end_behind_blanks v)
  where
    go : (x : Bool) → is_blank b ≡ x → to_text v + to_end (drop (to_text v) v) ≡ to_end v
        → (if not x then 0 else suc (to_text v)) + to_end (drop (if not x then 0 else suc (to_text v)) (b ∷ v)) ≡ to_end (b ∷ v)
    go true e ih = rw (blank_is_no_line_end b e) (omega (arith, ih))
    go false e ih = omega arith

no_cr_before_end : (v : List ℕ) → has carriage_return (drop (to_end v) v) ≡ has carriage_return v
unfolding up_to has
no_cr_before_end [] = refl
no_cr_before_end (b ∷ v) = go (eqb b line_feed) (eqb b carriage_return) refl (no_cr_before_end v)
  where
    go : (x y : Bool) → eqb b carriage_return ≡ y → has carriage_return (drop (to_end v) v) ≡ has carriage_return v
        → has carriage_return (drop (if x || y then 0 else suc (to_end v)) (b ∷ v)) ≡ y || has carriage_return v
    go true y e ih = rw e
    go false true e ih = rw e
    go false false e ih = ih

end_is_line_feed : (v : List ℕ) → byte_that (is carriage_return) (drop (to_end v) v) ≡ false → to_line_feed v ≡ to_end v
unfolding up_to
end_is_line_feed [] h = refl
end_is_line_feed (b ∷ v) h = go (eqb b line_feed) (eqb b carriage_return) refl h (end_is_line_feed v)
  where
    go : (x y : Bool) → eqb b carriage_return ≡ y
        → byte_that (is carriage_return) (drop (if x || y then 0 else suc (to_end v)) (b ∷ v)) ≡ false
        → (byte_that (is carriage_return) (drop (to_end v) v) ≡ false → to_line_feed v ≡ to_end v)
        → (if x then 0 else suc (to_line_feed v)) ≡ (if x || y then 0 else suc (to_end v))
    go true y e h ih = refl
    go false true e h ih = clash e h
    go false false e h ih = ap suc (ih h)

blank_by_text : (v : List ℕ) → blank (take (to_line_feed v) v) ≡ eqb (to_text v) (to_line_feed v)
unfolding up_to blank
blank_by_text [] = refl
blank_by_text (b ∷ v) = go (is_blank b) (eqb b line_feed) refl refl (blank_by_text v)
  where
    go : (x y : Bool) → is_blank b ≡ x → eqb b line_feed ≡ y → blank (take (to_line_feed v) v) ≡ eqb (to_text v) (to_line_feed v)
        → blank (take (if y then 0 else suc (to_line_feed v)) (b ∷ v))
        ≡ eqb (if not x then 0 else suc (to_text v)) (if y then 0 else suc (to_line_feed v))
    go true true e g ih = clash g (blank_is_no_other b line_feed e (λ z. omega arith) (λ z. omega arith))
    go true false e g ih = rw (e, eqb-suc-suc (to_text v) (to_line_feed v)) ih
    go false true e g ih = refl
    go false false e g ih = rw (e, eqb-zero-suc (to_line_feed v))

unindented_by_text : (v : List ℕ)
    → unindented (take (to_line_feed v) v) ≡ not (eqb (to_text v) (to_line_feed v)) && eqb (to_text v) 0
unfolding up_to unindented
unindented_by_text [] = refl
unindented_by_text (b ∷ v) = go (is_blank b) (eqb b line_feed) refl refl
  where
    go : (x y : Bool) → is_blank b ≡ x → eqb b line_feed ≡ y
        → unindented (take (if y then 0 else suc (to_line_feed v)) (b ∷ v))
        ≡ not (eqb (if not x then 0 else suc (to_text v)) (if y then 0 else suc (to_line_feed v)))
        && eqb (if not x then 0 else suc (to_text v)) 0
    go true true e g = clash g (blank_is_no_other b line_feed e (λ z. omega arith) (λ z. omega arith))
    go true false e g = rw (e, eqb-suc-zero (to_text v)) (sym (and_false (not (eqb (suc (to_text v)) (suc (to_line_feed v))))))
    go false true e g = refl
    go false false e g = rw (e, eqb-zero-suc (to_line_feed v))

-- ---- the same at places of the value

-- the same two numbers, or not
same_test : (a b c d : ℕ) → (a ≡ b → c ≡ d) → (c ≡ d → a ≡ b) → eqb a b ≡ eqb c d
same_test a b c d f g = go (eqb a b) refl
  where
    go : (x : Bool) → eqb a b ≡ x → x ≡ eqb c d
    go true e = sym (eq-eqb c d (f (eqb-true a b e)))
    go false e = sym (ne_eqb c d (λ z. eqb-false a b e (g z)))

module _ {v : List ℕ} {from text end : ℕ} (f : First (byte_that is_text) v from text) (g : First (byte_that is_line_end) v text end) where
  end_from_start : end ≡ from + to_end (drop from v)
  end_from_start =
      let k = to_text (drop from v) in
      let d : to_end (drop text v) ≡ to_end (drop k (drop from v)) = rw f.here (rw (drop-drop k from v)) in
      omega (arith, f.here, g.here, d, end_behind_blanks (drop from v))

  drop_to_end : drop (to_end (drop from v)) (drop from v) ≡ drop end v
  drop_to_end = rw (drop-drop (to_end (drop from v)) from v, ← end_from_start)

  no_cr_before : has carriage_return (drop from v) ≡ has carriage_return (drop end v)
  no_cr_before = sym (no_cr_before_end (drop from v)) ∙ rw drop_to_end

  -- where the line ends in LF or with the value
  module _ (n : byte_that (is carriage_return) (drop end v) ≡ false) where
    to_line_feed_lem : First (byte_that (is line_feed)) v from end
    to_line_feed_lem =
        let e : to_line_feed (drop from v) ≡ to_end (drop from v) = end_is_line_feed (drop from v) (rw drop_to_end n) in
        record { here = omega (arith, end_from_start, e); within = g.within }

    blank_line : blank (take (end - from) (drop from v)) ≡ eqb text end
    blank_line =
        let k = to_text (drop from v) in
        let m = to_line_feed (drop from v) in
        let l = to_line_feed_lem in
        let e : end - from ≡ m = omega (arith, l.here) in
        rw e
        (blank_by_text (drop from v)
        ∙ same_test k m text end (λ z. omega (arith, f.here, l.here)) (λ z. omega (arith, f.here, l.here)))

    unindented_line : unindented (take (end - from) (drop from v)) ≡ not (eqb text end) && eqb text from
    unindented_line =
        let k = to_text (drop from v) in
        let m = to_line_feed (drop from v) in
        let l = to_line_feed_lem in
        let e : end - from ≡ m = omega (arith, l.here) in
        rw e
        (unindented_by_text (drop from v)
        ∙ rw (
          same_test k m text end (λ z. omega (arith, f.here, l.here)) (λ z. omega (arith, f.here, l.here)),
          same_test k 0 text from (λ z. omega (arith, f.here)) (λ z. omega (arith, f.here)),
        ))

  -- ---- a turn of the loop

  module _ (first found : Bool) where
    pub remains_at_end : end ≡ length v
        → remaining first found (drop from v) ≡ not (eqb text end) && (found || (not (eqb text end) && eqb text from))
    remains_at_end h =
        let k : length v ≤ end = omega arith in
        let d : drop end v ≡ [] = drop_of_length-le v k in
        let n : byte_that (is carriage_return) (drop end v) ≡ false = rw d in
        let c : has carriage_return (drop end v) ≡ false = rw d (unfold has in refl) in
        last_line_remains first found (drop from v) _ (one_line_left (to_line_feed_lem n) h) (no_cr_before ∙ c)
        ∙ rw (blank_line n, unindented_line n)

    pub remains_at_cr : end < length v → get_or v end 0 ≡ carriage_return → remaining first found (drop from v) ≡ false
    remains_at_cr h e =
        carriage_return_remains first found (drop from v) [] (no_cr_before ∙ rw (drop_one v end h, e) (unfold has in refl))

    module _ (h : end < length v) (e : get_or v end 0 ≡ carriage_return → ⊥) where
      no_cr_there : byte_that (is carriage_return) (drop end v) ≡ false
      no_cr_there = rw (drop_one v end h) (ne_eqb (get_or v end 0) carriage_return e)

      no_cr_up_to : has carriage_return (drop from v) ≡ has carriage_return (drop (end + 1) v)
      no_cr_up_to = no_cr_before ∙ rw (drop_one v end h) (unfold has in rw (ne_eqb (get_or v end 0) carriage_return e))

      pub remains_at_blank : eqb text end && first ≡ true → remaining first found (drop from v) ≡ false
      remains_at_blank b =
          blank_line_remains first found (drop from v) _ (drop (end + 1) v)
          (more_lines_left (to_line_feed_lem no_cr_there) h)
          no_cr_up_to
          (rw (blank_line no_cr_there) (and_comm first (eqb text end) ∙ b))

      pub remains_at_line : eqb text end && first ≡ false
          → remaining first found (drop from v)
          ≡ remaining false (found || (not (eqb text end) && eqb text from)) (drop (end + 1) v)
      remains_at_line b =
          line_remains first found (drop from v) _ (drop (end + 1) v)
          (more_lines_left (to_line_feed_lem no_cr_there) h)
          no_cr_up_to
          (rw (blank_line no_cr_there) (and_comm first (eqb text end) ∙ b))
          ∙ rw (unindented_line no_cr_there)
