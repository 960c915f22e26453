-- Laws of tests: what `&&`, `||` and `not` say where their value is known.
use Rattle.std.specs.Prelude.{◌≡◌, refl, Bool, true, false, not, ◌&&◌, ◌||◌, ℕ}
use Rattle.std.proofs.Common.{sym, ap, ◌∙◌, arith}

abbrev digit : Bool → ℕ
digit true = 1
digit false = 0

-- a test is not both true and false
pub clash {ℓ} : {X : Type ℓ} {b : Bool} → b ≡ true → b ≡ false → X
clash p q = let z : ◌≡◌ {A = ℕ} 1 0 = ap digit (sym p ∙ q) in absurd (omega arith)

pub and_left : (a b : Bool) → a && b ≡ true → a ≡ true
and_left true b h = refl
and_left false b h = h

pub and_right : (a b : Bool) → a && b ≡ true → b ≡ true
and_right true b h = h
and_right false b h = clash h refl

pub and_both : (a b : Bool) → a ≡ true → b ≡ true → a && b ≡ true
and_both a b p q = rw (p, q)

pub and_false : (a : Bool) → a && false ≡ false
and_false true = refl
and_false false = refl

pub and_true : (a : Bool) → a && true ≡ a
and_true true = refl
and_true false = refl

pub or_left_false : (a b : Bool) → a || b ≡ false → a ≡ false
or_left_false true b h = h
or_left_false false b h = refl

pub or_right_false : (a b : Bool) → a || b ≡ false → b ≡ false
or_right_false true b h = clash refl h
or_right_false false b h = h

pub or_both_false : (a b : Bool) → a ≡ false → b ≡ false → a || b ≡ false
or_both_false a b p q = rw (p, q)

pub not_true : (a : Bool) → not a ≡ true → a ≡ false
not_true true h = sym h
not_true false h = refl

pub not_false : (a : Bool) → not a ≡ false → a ≡ true
not_false true h = refl
not_false false h = sym h
