-- What a writer ensures, and its laws: writers one after the other write their texts one after the other, and a loop over
-- writers writes the whole once nothing is left. A caller cites these and never looks at where the pen stands.
use Rattle.std.specs.Prelude.{◌≡◌, refl, List, [], ◌∷◌, ◌++◌, ℕ, suc, min, ◌+◌, ◌≤◌, length, drop, set}
use Rattle.std.specs.Borrow.{MutBor}
use Rattle.std.proofs.Common.{sym, ap, subst, ◌∙◌, arith, length-set}
use Rattle.pen.specs.declared.Pen.{Pen}
use Rattle.pen.specs.Put.{last, put, put_in_room, put_past, put_last}

-- the memory d and the place i after a text is written, a byte at a time: past the end nothing is stored and the place still goes on, as
-- far as there is a number for it
unfoldable pub ink : List ℕ → ℕ → List ℕ → List ℕ × ℕ
ink d i [] = (d, i)
ink d i (a ∷ t) = ink (set d i a) (min (i + 1) last) t

-- a pen over the lent memory, whose length has a number, that has written nothing
pub record Over (out : MutBor (List ℕ)) (p : Pen) : Type 0 where
  pub place : p.at.0 ≡ 0
  pub memory : p.out.now ≡ out.now
  pub same : p.out.ghost_name ≡ out.ghost_name
  pub size : length out.now ≤ last

-- from p on a writer wrote t, into the same memory; it leaves the pen as q
pub record Wrote (p : Pen) (t : List ℕ) (q : Pen) : Type 0 where
  pub ink : (q.out.now, q.at.0) ≡ ink p.out.now p.at.0 t
  pub same : q.out.ghost_name ≡ p.out.ghost_name

-- what a loop keeps: once todo is written at q, whole is written at p
pub record Left (p : Pen) (whole : List ℕ) (q : Pen) (todo : List ℕ) : Type 0 where
  pub ink : ink q.out.now q.at.0 todo ≡ ink p.out.now p.at.0 whole
  pub same : q.out.ghost_name ≡ p.out.ghost_name

-- ---- a text written a byte at a time

ink_both : (d : List ℕ) (i : ℕ) (t u : List ℕ) → ink (ink d i t).0 (ink d i t).1 u ≡ ink d i (t ++ u)
unfolding ink
ink_both d i [] u = refl
ink_both d i (a ∷ t) u = ink_both (set d i a) (min (i + 1) last) t u

ink_length : (d : List ℕ) (i : ℕ) (t : List ℕ) → length (ink d i t).0 ≡ length d
unfolding ink
ink_length d i [] = refl
ink_length d i (a ∷ t) = ink_length (set d i a) (min (i + 1) last) t ∙ length-set d i a

-- it is stored as a whole, where memory and place have numbers
pub ink_put : (t d : List ℕ) (i : ℕ) → i ≤ last → length d ≤ last → (put d i t, min (i + length t) last) ≡ ink d i t
unfolding ink put
ink_put [] d i h k = let z : min (i + 0) last ≡ i = omega arith in rw z refl
ink_put (a ∷ t) d i h k =
    let m : length (set d i a) ≤ last = omega (arith, length-set d i a) in
    let e : min (min (i + 1) last + length t) last ≡ min (i + suc (length t)) last = omega arith in
    let s : min (i + 1) last ≡ min (suc i) last = omega arith in
    rw (← e, ← put_last (set d i a) (suc i) t m, ← s) (ink_put t (set d i a) (min (i + 1) last) (omega arith) m)

-- ---- writers

infixr 30 ◌⨾◌
-- two writers one after the other
pub ◌⨾◌ : {p : Pen} {t : List ℕ} {q : Pen} {u : List ℕ} {r : Pen} → Wrote p t q → Wrote q u r → Wrote p (t ++ u) r
◌⨾◌ {p} {t} {q} {u} {r} v w =
    record {
      ink = w.ink ∙ ap (λ (m : List ℕ × ℕ). ink m.0 m.1 u) v.ink ∙ ink_both p.out.now p.at.0 t u;
      same = w.same ∙ v.same;
    }

pub wrote_as : {p : Pen} {t : List ℕ} {q : Pen} {u : List ℕ} → Wrote p t q → t ≡ u → Wrote p u q
wrote_as {p} {t} {q} w e = subst (λ (x : List ℕ). Wrote p x q) e w

pub wrote_none : {p : Pen} → Wrote p [] p
unfolding ink
wrote_none = record { ink = refl; same = refl }

pub wrote_length : {p : Pen} {t : List ℕ} {q : Pen} → Wrote p t q → length q.out.now ≡ length p.out.now
wrote_length {p} {t} w = ap (λ (m : List ℕ × ℕ). length m.0) w.ink ∙ ink_length p.out.now p.at.0 t

-- the text as a whole, where memory and place have numbers
pub wrote_put : {p : Pen} {t : List ℕ} {q : Pen} → Wrote p t q → p.at.0 ≤ last → length p.out.now ≤ last
    → ◌≡◌ {A = List ℕ × ℕ} (put p.out.now p.at.0 t, min (p.at.0 + length t) last) (q.out.now, q.at.0)
wrote_put {p} {t} w h k = ink_put t p.out.now p.at.0 h k ∙ sym w.ink

pub left_all : {p : Pen} {whole : List ℕ} → Left p whole p whole
left_all = record { ink = refl; same = refl }

pub left_step : {p : Pen} {whole : List ℕ} {q : Pen} {t u : List ℕ} {r : Pen} → Left p whole q (t ++ u) → Wrote q t r → Left p whole r u
left_step {p} {whole} {q} {t} {u} {r} l v =
    record {
      ink = ap (λ (m : List ℕ × ℕ). ink m.0 m.1 u) v.ink ∙ ink_both q.out.now q.at.0 t u ∙ l.ink;
      same = v.same ∙ l.same;
    }

pub left_done : {p : Pen} {whole : List ℕ} {q : Pen} → Left p whole q [] → Wrote p whole q
unfolding ink
left_done l = record { ink = l.ink; same = l.same }

pub left_length : {p : Pen} {whole : List ℕ} {q : Pen} {todo : List ℕ} → Left p whole q todo → length q.out.now ≡ length p.out.now
left_length {p} {whole} {q} {todo} l =
    sym (ink_length q.out.now q.at.0 todo) ∙ ap (λ (m : List ℕ × ℕ). length m.0) l.ink ∙ ink_length p.out.now p.at.0 whole

pub left_as : {p : Pen} {whole : List ℕ} {q : Pen} {t u : List ℕ} → Left p whole q t → t ≡ u → Left p whole q u
left_as {p} {whole} {q} l e = subst (λ (x : List ℕ). Left p whole q x) e l

-- ---- what a writer over lent memory leaves there

wrote_whole : {out : MutBor (List ℕ)} {p : Pen} {t : List ℕ} {q : Pen} → Over out p → Wrote p t q
    → ◌≡◌ {A = List ℕ × ℕ} (put out.now 0 t, min (0 + length t) last) (q.out.now, q.at.0)
wrote_whole {out} {p} {t} {q} s w = ink_put t out.now 0 (omega arith) s.size ∙ rw (s.memory, s.place) at (sym w.ink)

-- a text written from the start into memory that has room for it: this then begins with it, and the place is its length
pub wrote_front : {out : MutBor (List ℕ)} {p : Pen} {t : List ℕ} {q : Pen} → Over out p → Wrote p t q → length t ≤ length out.now
    → (q.at.0 ≡ length t) × (q.out.now ≡ t ++ drop (length t) out.now)
wrote_front {out} {p} {t} {q} s w k =
    let e = wrote_whole s w in
    let h = s.size in
    let z : 0 + length t ≡ length t = omega arith in (
      omega (arith, ap (λ (m : List ℕ × ℕ). m.1) e),
      sym (ap (λ (m : List ℕ × ℕ). m.0) e) ∙ rw z at (put_in_room t out.now 0 (omega arith)),
    )

-- a text that has a number of bytes is measured, wherever it is written
pub wrote_told : {out : MutBor (List ℕ)} {p : Pen} {t : List ℕ} {q : Pen} → Over out p → Wrote p t q → length t ≤ last → q.at.0 ≡ length t
wrote_told {out} {p} {t} {q} s w k = omega (arith, k, ap (λ (m : List ℕ × ℕ). m.1) (wrote_whole s w))

-- a text written nowhere is measured
pub wrote_nowhere : {out : MutBor (List ℕ)} {p : Pen} {t : List ℕ} {q : Pen} → Over out p → out.now ≡ [] → Wrote p t q → length t ≤ last
    → (q.at.0 ≡ length t) × (q.out.now ≡ [])
wrote_nowhere {out} {p} {t} {q} s n w k =
    let e = wrote_whole s w in (
      omega (arith, k, ap (λ (m : List ℕ × ℕ). m.1) e),
      sym (ap (λ (m : List ℕ × ℕ). m.0) e) ∙ put_past t out.now 0 (rw n (omega arith)) ∙ n,
    )
