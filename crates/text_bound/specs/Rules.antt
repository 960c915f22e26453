-- No rule is long: each has at most 24 parts, and no token or word of it has more than 40 bytes. One test, computed for every kind.
use Rattle.std.specs.Prelude.{◌≡◌, refl, Bool, true, ◌&&◌, List, [], ◌∷◌, ℕ, zero, suc, ◌≤◌, ◌<◌, leb, length, get_or}
use Rattle.std.proofs.Common.{arith, leb-true}
use Rattle.std.proofs.Math.Decide.{dec_lt}
use Rattle.std.proofs.Math.ListN.{get_or-eq_default}
use Rattle.base.specs.Bools.{and_left, and_right}
use Rattle.base.specs.Finite.{all, below}
use Rattle.meaning.specs.Kind
use Rattle.meaning.specs.Rules.{Part, tok, words, text, literal, space, new_line_or_space, one, spaced, separated, comma_separated, curly_brackets, if_next, if_text, if_variant, rules, shorthand, rule_of}

abbrev pub is_short : List ℕ → Bool
is_short t = leb (length t) 40

abbrev pub are_short : List (List ℕ) → Bool
are_short [] = true
are_short (t ∷ ts) = is_short t && are_short ts

-- the tokens and words of a part have at most 40 bytes
abbrev pub is_brief : Part → Bool
is_brief (tok t) = is_short t
is_brief (words ts) = are_short ts
is_brief text = true
is_brief (literal description) = true
is_brief space = true
is_brief new_line_or_space = true
is_brief (one c) = true
is_brief (spaced c) = true
is_brief (separated t c) = is_short t
is_brief (comma_separated l left right c) = is_short left && is_short right
is_brief (curly_brackets c) = true
is_brief (if_next c n) = true
is_brief (if_text n) = true
is_brief (if_variant n) = true

abbrev pub are_brief : List Part → Bool
are_brief [] = true
are_brief (p ∷ ps) = is_brief p && are_brief ps

pub record Brief (ps : List Part) : Type 0 where
  pub few : length ps ≤ 24
  pub each : are_brief ps ≡ true

pub word_is_short : (ts : List (List ℕ)) (n : ℕ) → are_short ts ≡ true → length (get_or ts n []) ≤ 40
word_is_short [] n h = omega arith
word_is_short (t ∷ ts) zero h = leb-true (length t) 40 (and_left _ _ h)
word_is_short (t ∷ ts) (suc n) h = word_is_short ts n (and_right (is_short t) _ h)

-- ---- the test

abbrev rule_test : ℕ → Bool
rule_test k = leb (length (rule_of k)) 24 && are_brief (rule_of k)

tested : all rule_test Kind.count ≡ true
unfolding rule_of
tested = refl

no_more_rules : length rules ≡ Kind.count
unfolding rules
no_more_rules = refl

-- a kind that is not known has no parts
no_rule : (k : ℕ) → Kind.count ≤ k → rule_of k ≡ []
unfolding rule_of
no_rule k h = get_or-eq_default rules [] {n = k} (omega (arith, no_more_rules))

pub rule_is_brief : (k : ℕ) → Brief (rule_of k)
rule_is_brief k = go (dec_lt k Kind.count)
  where
    go : Dec (k < Kind.count) → Brief (rule_of k)
    go (yes h) =
        let t = below rule_test Kind.count tested k h in
        record { few = leb-true (length (rule_of k)) 24 (and_left _ _ t); each = and_right (leb (length (rule_of k)) 24) _ t }
    go (no h) = rw (no_rule k (omega arith)) (record { few = omega arith; each = refl })

pub shorthand_is_brief : Brief shorthand
unfolding shorthand
shorthand_is_brief = record { few = omega arith; each = refl }
