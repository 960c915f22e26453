-- Lists of children: what a walk over them writes, a turn at a time, and how its lists are made of it.
use Rattle.std.specs.Prelude.{◌≡◌, refl, true, false, List, [], ◌∷◌, ◌++◌, ℕ, ◌≤◌, ◌<◌, length}
use Rattle.std.proofs.Common.{sym, ap, ◌∙◌, arith}
use Rattle.base.specs.Bools.{clash}
use Rattle.meaning.specs.Ascii.{ascii}
use Rattle.meaning.specs.Settings.{Settings, deeper, new_line, new_line_or_space}
use Rattle.tree_laws.specs.Forest.{Shaped, Range}
use Rattle.meaning.specs.Children.{Class, starts, rest, run, past}
use Rattle.meaning.specs.Layout.{Child, child_in, first_said, each, in_braces, in_commas}
use Rattle.pen.specs.declared.Pen.{Pen}
use Rattle.pen.specs.Wrote.{Wrote, Left, wrote_none, left_all, left_as, left_step, left_done, ◌⨾◌}
use Rattle.layout.specs.declared.Children.{Children}
use Rattle.layout.specs.Kids.{kids, next_is}
use Rattle.layout.specs.Written.{last_comma}
use Rattle.layout.specs.Jobs.{Jobs, Rest, ranged}
use Rattle.layout.specs.Runs.{run_none, past_none}
use Rattle.layout.specs.Did.{Walked, walked_as, wrote_walked, jobs_walked, starts_next}

-- ---- lists of children whose first is of the class

module _ (c : Class) where
  one_past : (ks : List Child) → starts child_in c ks ≡ true → past child_in c ks ≡ past child_in c (rest child_in ks)
  unfolding past
  one_past [] z = clash z refl
  one_past (x ∷ xs) z = rw z

  one_said : (before : List ℕ) (s : Settings) (ks : List Child) → starts child_in c ks ≡ true
      → each before s (run child_in c ks) ≡ before ++ (first_said s ks ++ each before s (run child_in c (rest child_in ks)))
  unfolding run each
  one_said before s [] z = clash z refl
  one_said before s (x ∷ xs) z = rw z

  in_commas_lem : (s : Settings) (l r : List ℕ) (ks : List Child) → starts child_in c ks ≡ true
      → l ++ (new_line (deeper s) ++ (first_said (deeper s) ks ++ (each (ascii "," ++ new_line_or_space (deeper s)) (deeper s) (run child_in c (rest child_in ks))
      ++ (last_comma s.breaks ++ (new_line s ++ r))))) ≡ in_commas s l r (run child_in c ks)
  unfolding run in_commas
  in_commas_lem s l r [] z = clash z refl
  in_commas_lem s l r (x ∷ xs) z = rw z

  in_braces_lem : (s : Settings) (ks : List Child) → starts child_in c ks ≡ true
      → ascii "{" ++ (each (new_line_or_space (deeper s)) (deeper s) (run child_in c ks) ++ (new_line_or_space s ++ ascii "}")) ≡ in_braces s (run child_in c ks)
  unfolding run in_braces
  in_braces_lem s [] z = clash z refl
  in_braces_lem s (x ∷ xs) z = rw z

  shorter : (ks : List Child) → starts child_in c ks ≡ true → length (rest child_in ks) < length ks
  shorter [] z = clash z refl
  shorter (x ∷ xs) z = omega arith

-- ---- the walk

-- at the walk's turn: once what is left of the run is written, the whole is
pub record Run (w p : List ℕ) (s : Settings) (before : List ℕ) (c : Class) (l : ℕ) (from : Children) (o : Pen) (at : Children) (q : Pen) : Type 0 where
  pub jobs : Jobs w p at l
  pub onward : {h : ℕ} → Rest w p from.next.0 from.end.0 h → Rest w p at.next.0 at.end.0 h
  pub end : at.end.0 ≡ from.end.0
  pub order : from.next.0 ≤ at.next.0
  pub same : past child_in c (kids w p at.next.0 at.end.0) ≡ past child_in c (kids w p from.next.0 from.end.0)
  pub todo :
      Left o (each before s (run child_in c (kids w p from.next.0 from.end.0))) q (each before s (run child_in c (kids w p at.next.0 at.end.0)))

pub run_all : {w p : List ℕ} {s : Settings} {before : List ℕ} {c : Class} {l : ℕ} {at : Children} {o : Pen} → Jobs w p at l
    → Run w p s before c l at o at o
run_all j = record { jobs = j; onward = λ {h} x. x; end = refl; order = omega arith; same = refl; todo = left_all }

-- a turn leaves fewer children
pub fewer_left : {w p : List ℕ} (ok : Shaped w p) (c : Class) {at : Children} → Range w at.next.0 at.end.0 → {t : List ℕ} {a : Pen} {r : Children} {b : Pen}
    → next_is w c at.next.0 at.end.0 ≡ true → Walked w p t (rest child_in (kids w p at.next.0 at.end.0)) at a r b
    → length (kids w p r.next.0 r.end.0) < length (kids w p at.next.0 at.end.0)
fewer_left {w} {p} ok c {at} j z y = rw y.left (shorter c (kids w p at.next.0 at.end.0) (starts_next (ranged ok j) c ∙ z))

module _ {w p : List ℕ} {s : Settings} {before : List ℕ} {c : Class} {l : ℕ} {from : Children} {o : Pen} {at : Children} {q : Pen}
    (ok : Shaped w p) (x : Run w p s before c l from o at q) where
  pub run_turn : {a : Pen} {r : Children} {b : Pen} → next_is w c at.next.0 at.end.0 ≡ true → Wrote q before a
      → Walked w p (first_said s (kids w p at.next.0 at.end.0)) (rest child_in (kids w p at.next.0 at.end.0)) at a r b
      → Run w p s before c l from o r b
  run_turn z k y =
      let m = kids w p at.next.0 at.end.0 in
      let f = starts_next (ranged ok x.jobs.range) c ∙ z in
      record {
        jobs = jobs_walked x.jobs y;
        onward = λ {h} v. y.onward (x.onward v);
        end = y.end ∙ x.end;
        order = omega (arith, x.order, y.order);
        same = ap (past child_in c) y.left ∙ sym (one_past c m f) ∙ x.same;
        todo = left_as (left_step (left_step (left_as x.todo (one_said c before s m f)) k) y.wrote)
            (ap (λ (ks : List Child). each before s (run child_in c ks)) (sym y.left));
      }

  pub run_over : next_is w c at.next.0 at.end.0 ≡ false
      → Walked w p (each before s (run child_in c (kids w p from.next.0 from.end.0))) (past child_in c (kids w p from.next.0 from.end.0)) from o at q
  unfolding each
  run_over z =
      let j = ranged ok x.jobs.range in
      record {
        wrote = left_done (left_as x.todo (ap (each before s) (run_none j c z)));
        left = sym (past_none j c z) ∙ x.same;
        onward = λ {b} v. x.onward v;
        end = x.end;
        order = x.order;
      }

-- ---- lists made of it

infixr 30 ◌then◌
pub ◌then◌ : {w p u : List ℕ} {rs : List Child} {at : Children} {o : Pen} {b : Children} {q : Pen} {v : List ℕ} {ks : List Child}
    {r : Children} {z : Pen} → Walked w p u rs at o b q → Walked w p v ks b q r z → Walked w p (u ++ v) ks at o r z
◌then◌ x y = record { wrote = x.wrote ⨾ y.wrote; left = y.left; onward = λ {b} q. y.onward (x.onward q); end = y.end ∙ x.end; order = omega (arith, x.order, y.order) }

module _ {w p : List ℕ} (ok : Shaped w p) (c : Class) (s : Settings) {at : Children} {o : Pen} (j : Range w at.next.0 at.end.0) where
  module _ (z : next_is w c at.next.0 at.end.0 ≡ false) where
    pub commas_none : {l r : List ℕ} {a b : Pen} → Wrote o l a → Wrote a r b
        → Walked w p (in_commas s l r (run child_in c (kids w p at.next.0 at.end.0))) (past child_in c (kids w p at.next.0 at.end.0)) at o at b
    unfolding in_commas
    commas_none x y = walked_as (rw (run_none (ranged ok j) c z)) (sym (past_none (ranged ok j) c z)) (wrote_walked (x ⨾ y))

    pub braces_none : {a b : Pen} → Wrote o (ascii "{") a → Wrote a (ascii "}") b
        → Walked w p (in_braces s (run child_in c (kids w p at.next.0 at.end.0))) (past child_in c (kids w p at.next.0 at.end.0)) at o at b
    unfolding in_braces
    braces_none x y = walked_as (rw (run_none (ranged ok j) c z)) (sym (past_none (ranged ok j) c z)) (wrote_walked (x ⨾ y))

    -- a walk over the class writes nothing
    pub nothing_said : (before : List ℕ)
        → Walked w p (each before s (run child_in c (kids w p at.next.0 at.end.0))) (past child_in c (kids w p at.next.0 at.end.0)) at o at o
    unfolding each
    nothing_said before = walked_as (rw (run_none (ranged ok j) c z)) (sym (past_none (ranged ok j) c z)) (wrote_walked wrote_none)

  -- the settings of the items are given by the function that made them
  module _ (z : next_is w c at.next.0 at.end.0 ≡ true) {s' : Settings} (m : s' ≡ deeper s) where
    pub commas_some : {l u : List ℕ} {q₁ q₂ : Pen} {b : Children} {q₃ : Pen} {r : Children} {q₄ q₅ q₆ q₇ : Pen} → Wrote o l q₁ → Wrote q₁ (new_line s') q₂
        → Walked w p (first_said s' (kids w p at.next.0 at.end.0)) (rest child_in (kids w p at.next.0 at.end.0)) at q₂ b q₃
        → Walked w p (each (ascii "," ++ new_line_or_space s') s' (run child_in c (kids w p b.next.0 b.end.0))) (past child_in c (kids w p b.next.0 b.end.0)) b q₃ r q₄
        → Wrote q₄ (last_comma s.breaks) q₅ → Wrote q₅ (new_line s) q₆ → Wrote q₆ u q₇
        → Walked w p (in_commas s l u (run child_in c (kids w p at.next.0 at.end.0))) (past child_in c (kids w p at.next.0 at.end.0)) at o r q₇
    commas_some {l} {u} x₁ x₂ y₃ y₄ x₅ x₆ x₇ =
        let f = starts_next (ranged ok j) c ∙ z in
        let ks = kids w p at.next.0 at.end.0 in
        walked_as
        (rw (y₃.left, m) (in_commas_lem c s l u ks f))
        (y₄.left ∙ ap (past child_in c) y₃.left ∙ sym (one_past c ks f))
        (wrote_walked x₁ then wrote_walked x₂ then y₃ then y₄ then wrote_walked (x₅ ⨾ x₆ ⨾ x₇))

    pub braces_some : {q₁ : Pen} {r : Children} {q₂ q₃ q₄ : Pen} → Wrote o (ascii "{") q₁
        → Walked w p (each (new_line_or_space s') s' (run child_in c (kids w p at.next.0 at.end.0))) (past child_in c (kids w p at.next.0 at.end.0)) at q₁ r q₂
        → Wrote q₂ (new_line_or_space s) q₃ → Wrote q₃ (ascii "}") q₄
        → Walked w p (in_braces s (run child_in c (kids w p at.next.0 at.end.0))) (past child_in c (kids w p at.next.0 at.end.0)) at o r q₄
    braces_some x₁ y₂ x₃ x₄ =
        walked_as
        (rw m (in_braces_lem c s (kids w p at.next.0 at.end.0) (starts_next (ranged ok j) c ∙ z)))
        y₂.left
        (wrote_walked x₁ then y₂ then wrote_walked (x₃ ⨾ x₄))
