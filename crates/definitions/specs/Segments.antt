-- The parts of rules that definitions share, by name; and which definition may be shorthand.
use Rattle.std.specs.Prelude.{◌≡◌, refl, Bool, true, ◌&&◌, ◌⊎◌, List, [], ◌∷◌, ◌++◌, ℕ, ◌+◌, ◌≤◌, ◌<◌, eqb}
use Rattle.std.proofs.Common.{ap, subst, inl, inr, arith}
use Rattle.meaning.specs.Ascii.{space}
use Rattle.meaning.specs.Kind as kinds
use Rattle.meaning.specs.KindNumbers.{kind_number}
use Rattle.meaning.specs.declared.kind.Kind.{Kind}
use Rattle.meaning.specs.declared.kind.Kind.TheVariants.{Scalar, Object, Interface, Union, Enum, InputObject, ExtendScalar, ExtendObject, ExtendInterface, ExtendUnion, ExtendEnum, ExtendInputObject}
use Rattle.meaning.specs.Settings.{Settings}
use Rattle.meaning.specs.Table.{kind_at, variant_at, length_at}
use Rattle.meaning.specs.Children.{Class, a, selection, run, past}
use Rattle.meaning.specs.Rules.{Part, child, separated, name, implements, directives, braces, optional_braces, description, extend, scalar, object_like, union, enum, input_object, rule_of}
use Rattle.meaning.specs.Layout.{Child, child_in, each, part_text, part_rest}
use Rattle.pen.specs.declared.Pen.{Pen}
use Rattle.layout.specs.declared.Children.{Children}
use Rattle.layout.specs.Kids.{kids, next_is}
use Rattle.layout.specs.Did.{Walked, walked_as, jobs_walked, Did, did_part, all_plain, closes, closes_both, plain_close}
use Rattle.serialize.specs.Parts.{Parts}

-- what an operation and a fragment end with
abbrev pub tail : List Part
tail = directives ++ braces selection

-- what follows `type ` and `interface `
abbrev pub object_tail : List Part
object_tail = name ++ implements ++ directives ++ optional_braces (a kinds.field_definition)

-- what the kinds of types share with their extensions
abbrev pub body : Kind → List Part
body Scalar = scalar
body ExtendScalar = scalar
body Object = object_like "type"
body ExtendObject = object_like "type"
body Interface = object_like "interface"
body ExtendInterface = object_like "interface"
body Union = union
body ExtendUnion = union
body Enum = enum
body ExtendEnum = enum
body InputObject = input_object
body ExtendInputObject = input_object
body _ = []

-- node i, which ends at e, may be shorthand: by the words alone
unfoldable pub short_at : List ℕ → ℕ → ℕ → Bool
unfolding kind_at variant_at length_at next_is
short_at w i e = eqb (kind_at w i) kinds.operation && (eqb (variant_at w i) 0 && (eqb (length_at w i) 0 && next_is w selection (i + 1) e))

-- ---- parts

pub parts_walked : {w p : List ℕ} {n l : ℕ} {t : List ℕ} {rs : List Child} {at : Children} {o : Pen} {r : Children} {q : Pen}
    → Parts w p n at l → Walked w p t rs at o r q → Parts w p n r l
parts_walked x k = record { jobs = jobs_walked x.jobs k; inside = x.inside }

pub did_separated : {w p : List ℕ} {s : Settings} {n : ℕ} {at : Children} {o : Pen} {r : Children} {q : Pen} {gap : List ℕ} (c : Class) (sign : List ℕ)
    → gap ≡ space ∷ (sign ++ space ∷ [])
    → Walked w p (each gap s (run child_in c (kids w p at.next.0 at.end.0))) (past child_in c (kids w p at.next.0 at.end.0)) at o r q
    → Did w p s n (separated sign c ∷ []) at o r q
unfolding part_text part_rest
did_separated {w} {p} {s} {n} {at} c sign z x =
    did_part (separated sign c) refl (walked_as (ap (λ (g : List ℕ). each g s (run child_in c (kids w p at.next.0 at.end.0))) z) refl x)

pub did_as : {w p : List ℕ} {s : Settings} {n : ℕ} {ps qs : List Part} {at : Children} {o : Pen} {r : Children} {q : Pen} → ps ≡ qs
    → Did w p s n ps at o r q → Did w p s n qs at o r q
did_as {w} {p} {s} {n} {at = at} {o} {r} {q} z x = subst (λ (y : List Part). Did w p s n y at o r q) z x

pub plain_and_list_close : (sign : List ℕ) (c : Class) (ps : List Part) → all_plain ps ≡ true → closes (ps ++ (child c ++ separated sign c ∷ [])) ≡ true
plain_and_list_close sign c ps z = closes_both ps (child c ++ separated sign c ∷ []) (plain_close ps z) refl

-- ---- the rules of the kinds of types and their extensions

pub described_body : (k : Kind) → (k ≡ Scalar) ⊎ ((k ≡ Object) ⊎ ((k ≡ Interface) ⊎ ((k ≡ Union) ⊎ ((k ≡ Enum) ⊎ (k ≡ InputObject)))))
    → description ++ body k ≡ rule_of (kind_number k)
unfolding rule_of
described_body k (inl e) = rw e refl
described_body k (inr (inl e)) = rw e refl
described_body k (inr (inr (inl e))) = rw e refl
described_body k (inr (inr (inr (inl e)))) = rw e refl
described_body k (inr (inr (inr (inr (inl e))))) = rw e refl
described_body k (inr (inr (inr (inr (inr e))))) = rw e refl

pub extended_body : (k : Kind)
    → (k ≡ ExtendScalar) ⊎ ((k ≡ ExtendObject) ⊎ ((k ≡ ExtendInterface) ⊎ ((k ≡ ExtendUnion) ⊎ ((k ≡ ExtendEnum) ⊎ (k ≡ ExtendInputObject)))))
    → extend ++ body k ≡ rule_of (kind_number k)
unfolding rule_of
extended_body k (inl e) = rw e refl
extended_body k (inr (inl e)) = rw e refl
extended_body k (inr (inr (inl e))) = rw e refl
extended_body k (inr (inr (inr (inl e)))) = rw e refl
extended_body k (inr (inr (inr (inr (inl e))))) = rw e refl
extended_body k (inr (inr (inr (inr (inr e))))) = rw e refl

-- ---- numbers of kinds

pub not_zero : {X : Type 0} (k : ℕ) → 1 ≤ k → k < 1 → X
not_zero k l h = absurd (omega (arith, l, h))

pub above_eleven : (k : ℕ) → 11 ≤ k → (k ≡ 11 → ⊥) → 12 ≤ k
above_eleven k l n = omega (arith, l, n)
