-- A run is read, then an escape, and so on. A closing quote that ends the text leaves nothing, and whatever else ends a run has no value.
use Rattle.std.proofs.Common.{◌≡◌, sym, ap, ◌∙◌, arith, false, eqb, eqb-true, eq-eqb, ℕ, List, ◌∷◌, suc, ◌+◌, ◌-◌, ◌<◌, length, take, drop, get_or, length-drop, get_or-drop}
use Rattle.std.proofs.Math.Option.{Option as Maybe, none}
use Rattle.base.specs.Bools.{clash}
use Rattle.meaning.specs.Ascii.{quote, backslash}
use Rattle.meaning.specs.Utf8.{encoded}
use Rattle.meaning.specs.Reading.{quoted_front, characters, escape, wrong}
use Rattle.pen.specs.declared.Pen.{Pen}
use Rattle.pen.specs.Wrote.{Wrote}
use Rattle.read_quoted.specs.Escapes.{Stands}
use Rattle.read_quoted.specs.Runs.{plain, plain_run, run_read, run_ends}
use Rattle.read_quoted.specs.Walks.{Midway, Value, nothing_done, some_done, left_says, all_done, none_left, not_closed, closed_at_the_end, goes_on_when_closed, wrong_escape, escape_read, line_end}
use Rattle.read_quoted.proofs.write_value.Goals as goal

ne_from_eqb : {m n : ℕ} → eqb m n ≡ false → m ≡ n → ⊥
ne_from_eqb {m} {n} e h = clash (eq-eqb m n h) e

-- a run r of s is written, behind which t stands
module _ (o : Maybe (List ℕ)) (e : ℕ) (s r t : List ℕ) (p q z : Pen) (m : Midway o p q (characters quoted_front 0 s))
    (l : e ≡ plain_run s) (x : r ≡ take e s) (y : t ≡ drop e s) (w : Wrote q r z) where
  from_front : e ≡ 0 + plain_run (drop 0 s)
  from_front = omega (arith, l)

  run_done : Midway o p z (characters quoted_front 0 t)
  run_done =
      let n : e - 0 ≡ e = omega arith in
      let read = run_read s 0 e from_front in
      rw y (some_done (left_says m read) (rw (n, ← x) w))

  nothing_left : length t ≡ 0 → o ≡ none
  nothing_left h = none_left (left_says run_done (not_closed t 0 (omega (arith, h))))

  module _ (b : ℕ) (v : List ℕ) (f : t ≡ b ∷ v) where
    byte_done : Midway o p z (characters quoted_front 0 (b ∷ v))
    byte_done = rw f at run_done

    there : 0 < length (b ∷ v)
    there = omega arith

    not_plain : plain b ≡ false
    not_plain =
        let n : e + 0 ≡ e = omega arith in
        let g : b ≡ get_or s e 0 = ap (λ (u : List ℕ). get_or u 0 0) (sym f ∙ y) ∙ get_or-drop e s 0 0 ∙ rw n in
        rw g (run_ends s 0 e from_front (omega (arith, ap length f, ap length y, length-drop e s)))

    closed_here : b ≡ quote → length v ≡ 0 → Value o p z
    closed_here g k = all_done (left_says byte_done (closed_at_the_end (b ∷ v) 0 there g (omega (arith, k))))

    goes_on : b ≡ quote → (length v ≡ 0 → ⊥) → o ≡ none
    goes_on g k = none_left (left_says byte_done (goes_on_when_closed (b ∷ v) 0 there g (λ l. k (omega (arith, l)))))

    no_end : (b ≡ quote → ⊥) → (b ≡ backslash → ⊥) → o ≡ none
    no_end g k = none_left (left_says byte_done (line_end (b ∷ v) 0 there g k not_plain))

    wrong_here : b ≡ backslash → escape v ≡ wrong → o ≡ none
    wrong_here g a = none_left (left_says byte_done (wrong_escape (b ∷ v) 0 there g a))

    escape_done : b ≡ backslash → (n : ℕ) (u : List ℕ) → (k : ℕ) × (Stands v (escape v) n k × (u ≡ drop k v)) → (w : Pen) → Wrote z (encoded n) w
        → Midway o p w (characters quoted_front 0 u)
    escape_done g n u (k, a) w c =
        let m : 0 + 1 + k ≡ suc k = omega arith in
        rw a.1 (some_done (left_says byte_done (rw m at (escape_read (b ∷ v) 0 there n k g a.0))) c)

    shorter : (n : ℕ) (u : List ℕ) → (k : ℕ) × (Stands v (escape v) n k × (u ≡ drop k v)) → length u < length s
    shorter n u (k, a) = omega (arith, ap length a.1, length-drop k v, ap length f, ap length y, length-drop e s)

pub loop-end-init : goal.loop-end-init
loop-end-init c = nothing_done

pub returns-in_err-end : goal.returns-in_err-end
returns-in_err-end c =
    rw c.from_residual.ensures
    (nothing_left _ _ _ _ _ _ _ _ c.loop-end.invariant c.run_length.ensures.value c.split_at.ensures.front c.split_at.ensures.back c.write.ensures c.in_err-end.ensures.cases)

pub returns-in-34 : goal.returns-in-34
returns-in-34 c =
    let k : length c.in_ok-end.behind.now ≡ 0 = eqb-true _ _ (sym c.is_empty.ensures ∙ c.if-is_empty.true) in
    closed_here _ _ _ _ _ _ _ _ c.loop-end.invariant c.run_length.ensures.value c.split_at.ensures.front c.split_at.ensures.back c.write.ensures
    _ _ c.in_ok-end.ensures.cases.0 c.in-34.is k

pub returns-in_err-c-in-92 : goal.returns-in_err-c-in-92
returns-in_err-c-in-92 c =
    rw c.from_residual-in_err-c-in-92.ensures
    (wrong_here _ _ _ _ _ _ _ _ c.loop-end.invariant c.run_length.ensures.value c.split_at.ensures.front c.split_at.ensures.back c.write.ensures
    _ _ c.in_ok-end.ensures.cases.0 c.in-92.is (rw c.in_err-c-in-92.was at c.escape.ensures))

pub loop-end-preserved : goal.loop-end-preserved
loop-end-preserved c =
    escape_done _ _ _ _ _ _ _ _ c.loop-end.invariant c.run_length.ensures.value c.split_at.ensures.front c.split_at.ensures.back c.write.ensures
    _ _ c.in_ok-end.ensures.cases.0 c.in-92.is _ _ (rw c.in_ok-c-in-92.was at c.escape.ensures) _ c.write_char.ensures

pub returns-in_default : goal.returns-in_default
returns-in_default c =
    let k = ne_from_eqb (sym c.is_empty.ensures ∙ c.if-is_empty.false) in
    goes_on _ _ _ _ _ _ _ _ c.loop-end.invariant c.run_length.ensures.value c.split_at.ensures.front c.split_at.ensures.back c.write.ensures
    _ _ c.in_ok-end.ensures.cases.0 (omega arith) k

pub returns-in_default-2 : goal.returns-in_default-2
returns-in_default-2 c =
    no_end _ _ _ _ _ _ _ _ c.loop-end.invariant c.run_length.ensures.value c.split_at.ensures.front c.split_at.ensures.back c.write.ensures
    _ c.in_ok-end.behind.now c.in_ok-end.ensures.cases.0 (λ e. omega arith) (λ e. omega arith)
