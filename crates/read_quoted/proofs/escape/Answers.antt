-- A `u` leads to its four digits; any other byte stands for the byte of its letter, if it has one.
use Rattle.std.proofs.Common.{◌≡◌, refl, sym, ◌∙◌, arith, ℕ, List, [], ◌∷◌, ◌+◌, ◌-◌, ◌≤◌, ◌<◌, length, take, drop, get_or, length-drop, drop-drop}
use Rattle.std.proofs.lemmas.List.{take_rest}
use Rattle.meaning.specs.Quoted.{letter_u}
use Rattle.meaning.specs.Reading.{unicode_escape, escape}
use Rattle.read_quoted.specs.Escapes.{too_few_digits, no_escape_left, digits_follow, no_letter, a_letter}
use Rattle.read_quoted.proofs.escape.Goals as goal

-- the digits behind a `u` are the front f of what stands there
by_four_bytes : (t f : List ℕ) → 4 ≤ length t → f ≡ take 4 t
    → unicode_escape t ≡ unicode_escape (get_or f 0 0 ∷ get_or f 1 0 ∷ get_or f 2 0 ∷ get_or f 3 0 ∷ [])
unfolding unicode_escape
by_four_bytes [] f h e = absurd (omega arith)
by_four_bytes (a ∷ []) f h e = absurd (omega arith)
by_four_bytes (a ∷ (b ∷ [])) f h e = absurd (omega arith)
by_four_bytes (a ∷ (b ∷ (c ∷ []))) f h e = absurd (omega arith)
by_four_bytes (a ∷ (b ∷ (c ∷ (d ∷ t)))) f h e = rw e refl

pub returns-in-empty : goal.returns-in-empty
returns-in-empty c = no_escape_left c.args.text.now 0 (omega (arith, c.in-empty.len_below))

pub returns-in_err-a-in-117 : goal.returns-in_err-a-in-117
returns-in_err-a-in-117 c =
    let s = c.args.text.now in
    let u : get_or s 0 0 ≡ letter_u = omega arith in
    let few : length (take (length s - 1) (drop 1 s)) < 4 = c.in_err-a-in-117.ensures.cases in
    let short : length s - 0 < 5 = omega (arith, rw take_rest at few, length-drop 1 s) in
    rw c.from_residual.ensures
    (sym (digits_follow s 0 c.in-117.len_at_least u) ∙ too_few_digits s 0 c.in-117.len_at_least short)

-- the digits are the front f of what stands behind the `u`, and t stands behind them
module _ (s f t : List ℕ) (u : get_or s 0 0 ≡ letter_u) (a : f ≡ take 4 (take (length s - 1) (drop 1 s)))
    (b : t ≡ drop 4 (take (length s - 1) (drop 1 s))) (k : length t + 4 ≡ length (take (length s - 1) (drop 1 s))) where
  long : 5 ≤ length s
  long = omega (arith, rw take_rest at k, length-drop 1 s)

  means : escape s ≡ unicode_escape (get_or f 0 0 ∷ get_or f 1 0 ∷ get_or f 2 0 ∷ get_or f 3 0 ∷ [])
  means =
      sym (digits_follow s 0 (omega (arith, long)) u)
      ∙ by_four_bytes (drop 1 s) f (omega (arith, long, length-drop 1 s)) (rw take_rest at a)

  behind : t ≡ drop 5 s
  behind = rw take_rest at b ∙ drop-drop 4 1 s

pub returns-in_err-unicode_escape-in-117 : goal.returns-in_err-unicode_escape-in-117
returns-in_err-unicode_escape-in-117 c =
    let d = c.in_ok-a-in-117.ensures.cases in
    let u : get_or c.args.text.now 0 0 ≡ letter_u = omega arith in
    rw c.from_residual-in_err-unicode_escape-in-117.ensures
    (means _ _ _ u d.0 d.1 d.2 ∙ sym (rw c.in_err-unicode_escape-in-117.was at c.unicode_escape.ensures.value))

pub returns-in_ok-unicode_escape-in-117 : goal.returns-in_ok-unicode_escape-in-117
returns-in_ok-unicode_escape-in-117 c =
    let d = c.in_ok-a-in-117.ensures.cases in
    let u : get_or c.args.text.now 0 0 ≡ letter_u = omega arith in (
      5,
      (
        record {
          bound = rw c.in_ok-unicode_escape-in-117.was at c.unicode_escape.ensures.scalar;
          within = long _ _ _ u d.0 d.1 d.2;
          means = means _ _ _ u d.0 d.1 d.2 ∙ sym (rw c.in_ok-unicode_escape-in-117.was at c.unicode_escape.ensures.value);
        },
        behind _ _ _ u d.0 d.1 d.2,
      ),
    )

pub returns-in_err-letter-in-len1-up : goal.returns-in_err-letter-in-len1-up
returns-in_err-letter-in-len1-up c =
    let n : get_or c.args.text.now 0 0 ≡ letter_u → ⊥ = λ e. omega arith in
    rw c.from_residual-in_err-letter-in-len1-up.ensures
    (no_letter c.args.text.now 0 c.in-len1-up.len_at_least _ n refl (sym (rw c.in_err-letter-in-len1-up.was at c.letter.ensures.value)))

pub returns-in_ok-letter-in-len1-up : goal.returns-in_ok-letter-in-len1-up
returns-in_ok-letter-in-len1-up c =
    let n : get_or c.args.text.now 0 0 ≡ letter_u → ⊥ = λ e. omega arith in
    let some : 0 < c.in_ok-letter-in-len1-up.field-0 = rw c.in_ok-letter-in-len1-up.was at c.letter.ensures.some in (
      1,
      (
        a_letter c.args.text.now 0 c.in-len1-up.len_at_least _ n (rw c.in_ok-letter-in-len1-up.was at c.letter.ensures.value) (λ e. omega arith),
        take_rest _ 1,
      ),
    )
