-- A printing function does a part of a rule, or some parts one after the other: it writes their text and leaves the walk at the child
-- that they leave. Functions one after the other do their parts one after the other, and the parts of a kind's rule are its text.
use Rattle.std.specs.Prelude.{◌≡◌, Bool, true, false, List, [], ◌∷◌, ◌++◌, ℕ, zero, suc, ◌≤◌, ◌&&◌, leb, eqb, length, get_or, if◌then◌else◌}
use Rattle.std.proofs.Common.{refl, sym, ap, ◌∙◌, arith, length-append, append-nil, append_assoc, leb-true, le-leb}
use Rattle.std.proofs.Math.Decide.{dec_lt}
use Rattle.std.proofs.Math.ListN.{get_or-eq_default}
use Rattle.base.specs.Bools.{clash, and_left, and_right, and_both}
use Rattle.meaning.specs.Ascii.{space as a_space}
use Rattle.meaning.specs.Settings.{Settings, settings, new_line_or_space as line_or_space}
use Rattle.meaning.specs.Literal.{literal as literal_text}
use Rattle.meaning.specs.Tree.{Head}
use Rattle.meaning.specs.Table.{kind_at, variant_at, text_at, head_at, forest, tree_at}
use Rattle.tree_laws.specs.Height.{heights}
use Rattle.meaning.specs.Children.{Class, starts}
use Rattle.meaning.specs.Rules.{Part, tok, words, text, literal, space, new_line_or_space, one, spaced, separated, comma_separated, curly_brackets, if_next, if_text, if_variant, rule_of}
use Rattle.meaning.specs.Layout.{Child, child_in, is_empty, part_text, part_rest, part_skip, said, node_text}
use Rattle.pen.specs.Wrote.{Wrote, wrote_as, wrote_none, ◌⨾◌ as ◌then◌}
use Rattle.pen.specs.declared.Pen.{Pen}
use Rattle.layout.specs.declared.Children.{Children}
use Rattle.layout.specs.Kids.{kids, kids_none, kids_more, next_is, next_none, next_some}
use Rattle.layout.specs.Written.{ChildrenOf}
use Rattle.layout.specs.Jobs.{Ranged, Rest, Jobs}

-- ---- parts one after the other

-- how many parts after it a part may leave out
abbrev leaves_out : Part → ℕ
leaves_out (tok t) = 0
leaves_out (words ts) = 0
leaves_out text = 0
leaves_out (literal d) = 0
leaves_out space = 0
leaves_out new_line_or_space = 0
leaves_out (one c) = 0
leaves_out (spaced c) = 0
leaves_out (separated t c) = 0
leaves_out (comma_separated l left right c) = 0
leaves_out (curly_brackets c) = 0
leaves_out (if_next c n) = n
leaves_out (if_text n) = n
leaves_out (if_variant n) = n

-- no part leaves out more than there is
abbrev pub closes : List Part → Bool
closes [] = true
closes (p ∷ ps) = leb (leaves_out p) (length ps) && closes ps

-- the children that the parts leave, the first k parts left out
unfoldable pub after : Head → ℕ → List Part → List Child → List Child
unfolding part_rest part_skip
after h k [] rs = rs
after h (suc k) (p ∷ ps) rs = after h k ps rs
after h zero (p ∷ ps) rs = after h (part_skip h p rs) ps (part_rest p rs)

skips_no_more : (h : Head) (p : Part) (rs : List Child) → part_skip h p rs ≤ leaves_out p
unfolding part_skip
skips_no_more h (tok t) rs = omega arith
skips_no_more h (words ts) rs = omega arith
skips_no_more h text rs = omega arith
skips_no_more h (literal d) rs = omega arith
skips_no_more h space rs = omega arith
skips_no_more h new_line_or_space rs = omega arith
skips_no_more h (one c) rs = omega arith
skips_no_more h (spaced c) rs = omega arith
skips_no_more h (separated t c) rs = omega arith
skips_no_more h (comma_separated l left right c) rs = omega arith
skips_no_more h (curly_brackets c) rs = omega arith
skips_no_more h (if_next c n) rs = go (starts child_in c rs)
  where
    go : (b : Bool) → (if b then 0 else n) ≤ n
    go true = omega arith
    go false = omega arith
skips_no_more h (if_text n) rs = go (is_empty h.text)
  where
    go : (b : Bool) → (if b then n else 0) ≤ n
    go true = omega arith
    go false = omega arith
skips_no_more h (if_variant n) rs = go (eqb h.variant 1)
  where
    go : (b : Bool) → (if b then 0 else n) ≤ n
    go true = omega arith
    go false = omega arith

module _ (h : Head) where
  -- what a part leaves out is among the parts that follow it
  skips_within : (p : Part) (ps : List Part) (rs : List Child) → closes (p ∷ ps) ≡ true → part_skip h p rs ≤ length ps
  skips_within p ps rs e =
      omega (arith, skips_no_more h p rs, leb-true (leaves_out p) (length ps) (and_left (leb (leaves_out p) (length ps)) (closes ps) e))

  later_closes : (p : Part) (ps : List Part) → closes (p ∷ ps) ≡ true → closes ps ≡ true
  later_closes p ps e = and_right (leb (leaves_out p) (length ps)) (closes ps) e

  said_both : (s : Settings) (k : ℕ) (ps qs : List Part) (rs : List Child) → k ≤ length ps → closes ps ≡ true
      → said s h k (ps ++ qs) rs ≡ said s h k ps rs ++ said s h 0 qs (after h k ps rs)
  unfolding said after
  said_both s zero [] qs rs l e = refl
  said_both s (suc k) [] qs rs l e = absurd (omega arith)
  said_both s zero (p ∷ ps) qs rs l e =
      ap (λ t. part_text s h p rs ++ t)
      (said_both s (part_skip h p rs) ps qs (part_rest p rs) (skips_within p ps rs e) (later_closes p ps e))
      ∙ sym (append_assoc (part_text s h p rs) _ _)
  said_both s (suc k) (p ∷ ps) qs rs l e = said_both s k ps qs rs (omega arith) (later_closes p ps e)

  after_both : (k : ℕ) (ps qs : List Part) (rs : List Child) → k ≤ length ps → closes ps ≡ true
      → after h k (ps ++ qs) rs ≡ after h 0 qs (after h k ps rs)
  unfolding after
  after_both zero [] qs rs l e = refl
  after_both (suc k) [] qs rs l e = absurd (omega arith)
  after_both zero (p ∷ ps) qs rs l e =
      after_both (part_skip h p rs) ps qs (part_rest p rs) (skips_within p ps rs e) (later_closes p ps e)
  after_both (suc k) (p ∷ ps) qs rs l e = after_both k ps qs rs (omega arith) (later_closes p ps e)

  -- parts that are all left out
  said_none : (s : Settings) (ps : List Part) (rs : List Child) → said s h (length ps) ps rs ≡ []
  unfolding said
  said_none s [] rs = refl
  said_none s (p ∷ ps) rs = said_none s ps rs

  after_none : (ps : List Part) (rs : List Child) → after h (length ps) ps rs ≡ rs
  unfolding after
  after_none [] rs = refl
  after_none (p ∷ ps) rs = after_none ps rs

pub closes_both : (ps qs : List Part) → closes ps ≡ true → closes qs ≡ true → closes (ps ++ qs) ≡ true
closes_both [] qs e f = f
closes_both (p ∷ ps) qs e f =
    let l : leaves_out p ≤ length ps = leb-true (leaves_out p) (length ps) (and_left (leb (leaves_out p) (length ps)) (closes ps) e) in
    and_both
    (leb (leaves_out p) (length (ps ++ qs)))
    (closes (ps ++ qs))
    (le-leb (leaves_out p) (length (ps ++ qs)) (omega (arith, l, length-append ps qs)))
    (closes_both ps qs (and_right (leb (leaves_out p) (length ps)) (closes ps) e) f)

-- ---- what a function does

-- it wrote t, and leaves the walk over the children where they are rs
pub record Walked (w p : List ℕ) (t : List ℕ) (rs : List Child) (at : Children) (o : Pen) (r : Children) (q : Pen) : Type 0 where
  pub wrote : Wrote o t q
  pub left : kids w p r.next.0 r.end.0 ≡ rs
  pub onward : {b : ℕ} → Rest w p at.next.0 at.end.0 b → Rest w p r.next.0 r.end.0 b
  pub end : r.end.0 ≡ at.end.0
  pub order : at.next.0 ≤ r.next.0

-- it did the parts ps of the rule of node n
pub record Did (w p : List ℕ) (s : Settings) (n : ℕ) (ps : List Part) (at : Children) (o : Pen) (r : Children) (q : Pen) : Type 0 where
  pub closed : closes ps ≡ true
  pub walked :
      Walked w p (said s (head_at w p n) 0 ps (kids w p at.next.0 at.end.0)) (after (head_at w p n) 0 ps (kids w p at.next.0 at.end.0)) at o r q

pub walked_as : {w p : List ℕ} {t t' : List ℕ} {rs rs' : List Child} {at : Children} {o : Pen} {r : Children} {q : Pen}
    → t ≡ t' → rs ≡ rs' → Walked w p t rs at o r q → Walked w p t' rs' at o r q
walked_as a b x = record { wrote = wrote_as x.wrote a; left = x.left ∙ b; onward = x.onward; end = x.end; order = x.order }

pub wrote_walked : {w p : List ℕ} {t : List ℕ} {at : Children} {o q : Pen} → Wrote o t q → Walked w p t (kids w p at.next.0 at.end.0) at o at q
wrote_walked x = record { wrote = x; left = refl; onward = λ {b} z. z; end = refl; order = omega arith }

-- what is left of them stays to be printed
pub jobs_walked : {w p : List ℕ} {l : ℕ} {t : List ℕ} {rs : List Child} {at : Children} {o : Pen} {r : Children} {q : Pen}
    → Jobs w p at l → Walked w p t rs at o r q → Jobs w p r l
jobs_walked {w} {p} {l} {at = at} j k =
    let here : Rest w p at.next.0 at.end.0 (heights (forest w p at.next.0 at.end.0)) =
    record { range = j.range; deep = omega arith; inner = j.inner } in
    let z = k.onward here in
    record { range = z.range; inner = z.inner; level = omega (arith, j.level, z.deep) }

infixr 30 ◌⨾◌
pub ◌⨾◌ : {w p : List ℕ} {s : Settings} {n : ℕ} {ps qs : List Part} {at : Children} {o : Pen} {b : Children} {q : Pen} {r : Children} {u : Pen}
    → Did w p s n ps at o b q → Did w p s n qs b q r u → Did w p s n (ps ++ qs) at o r u
◌⨾◌ {w} {p} {s} {n} {ps} {qs} {at} x y =
    let rs = kids w p at.next.0 at.end.0 in
    let h = head_at w p n in
    let l = x.walked.left in
    record {
      closed = closes_both ps qs x.closed y.closed;
      walked = record {
        wrote = wrote_as (x.walked.wrote then y.walked.wrote)
            (ap (λ (k : List Child). said s h 0 ps rs ++ said s h 0 qs k) l ∙ sym (said_both h s 0 ps qs rs (omega arith) x.closed));
        left = y.walked.left ∙ ap (after h 0 qs) l ∙ sym (after_both h 0 ps qs rs (omega arith) x.closed);
        onward = λ {b} z. y.walked.onward (x.walked.onward z);
        end = y.walked.end ∙ x.walked.end;
        order = omega (arith, x.walked.order, y.walked.order);
      };
    }

-- ---- single parts

-- tokens and spaces
abbrev is_plain : Part → Bool
is_plain (tok t) = true
is_plain (words ts) = false
is_plain text = false
is_plain (literal d) = false
is_plain space = true
is_plain new_line_or_space = false
is_plain (one c) = false
is_plain (spaced c) = false
is_plain (separated t c) = false
is_plain (comma_separated l left right c) = false
is_plain (curly_brackets c) = false
is_plain (if_next c n) = false
is_plain (if_text n) = false
is_plain (if_variant n) = false

abbrev pub all_plain : List Part → Bool
all_plain [] = true
all_plain (x ∷ ps) = is_plain x && all_plain ps

abbrev bytes_of : Part → List ℕ
bytes_of (tok t) = t
bytes_of (words ts) = []
bytes_of text = []
bytes_of (literal d) = []
bytes_of space = a_space ∷ []
bytes_of new_line_or_space = []
bytes_of (one c) = []
bytes_of (spaced c) = []
bytes_of (separated t c) = []
bytes_of (comma_separated l left right c) = []
bytes_of (curly_brackets c) = []
bytes_of (if_next c n) = []
bytes_of (if_text n) = []
bytes_of (if_variant n) = []

abbrev pub bytes : List Part → List ℕ
bytes [] = []
bytes (x ∷ ps) = bytes_of x ++ bytes ps

record Plain (s : Settings) (h : Head) (x : Part) (rs : List Child) : Type 0 where
  pub leaves : leaves_out x ≡ 0
  pub text : part_text s h x rs ≡ bytes_of x
  pub rest : part_rest x rs ≡ rs
  pub skip : part_skip h x rs ≡ 0

plain_part : (s : Settings) (h : Head) (x : Part) (rs : List Child) → is_plain x ≡ true → Plain s h x rs
unfolding part_text part_rest part_skip
plain_part s h (tok t) rs z = record { leaves = refl; text = refl; rest = refl; skip = refl }
plain_part s h space rs z = record { leaves = refl; text = refl; rest = refl; skip = refl }
plain_part s h (words ts) rs z = clash z refl
plain_part s h text rs z = clash z refl
plain_part s h (literal d) rs z = clash z refl
plain_part s h new_line_or_space rs z = clash z refl
plain_part s h (one c) rs z = clash z refl
plain_part s h (spaced c) rs z = clash z refl
plain_part s h (separated t c) rs z = clash z refl
plain_part s h (comma_separated l left right c) rs z = clash z refl
plain_part s h (curly_brackets c) rs z = clash z refl
plain_part s h (if_next c n) rs z = clash z refl
plain_part s h (if_text n) rs z = clash z refl
plain_part s h (if_variant n) rs z = clash z refl

pub plain_close : (ps : List Part) → all_plain ps ≡ true → closes ps ≡ true
plain_close [] z = refl
plain_close (x ∷ ps) z =
    let k = plain_part (settings false [] 0) (record { kind = 0; variant = 0; text = [] }) x [] (and_left (is_plain x) (all_plain ps) z) in
    and_both
    (leb (leaves_out x) (length ps))
    (closes ps)
    (le-leb (leaves_out x) (length ps) (omega (arith, k.leaves)))
    (plain_close ps (and_right (is_plain x) (all_plain ps) z))

module _ (s : Settings) (h : Head) (rs : List Child) where
  plain_said : (ps : List Part) → all_plain ps ≡ true → bytes ps ≡ said s h 0 ps rs
  unfolding said
  plain_said [] z = refl
  plain_said (x ∷ ps) z =
      let k = plain_part s h x rs (and_left (is_plain x) (all_plain ps) z) in
      rw (k.text, k.rest, k.skip) (ap (λ t. bytes_of x ++ t) (plain_said ps (and_right (is_plain x) (all_plain ps) z)))

  plain_after : (ps : List Part) → all_plain ps ≡ true → rs ≡ after h 0 ps rs
  unfolding after
  plain_after [] z = refl
  plain_after (x ∷ ps) z =
      let k = plain_part s h x rs (and_left (is_plain x) (all_plain ps) z) in
      rw (k.rest, k.skip) (plain_after ps (and_right (is_plain x) (all_plain ps) z))

pub plain_and_name_close : (ps : List Part) → all_plain ps ≡ true → closes (ps ++ text ∷ []) ≡ true
plain_and_name_close ps z = closes_both ps (text ∷ []) (plain_close ps z) refl

front_closes : (x : Part) (ps : List Part) → leaves_out x ≡ length ps → closes ps ≡ true → closes (x ∷ ps) ≡ true
front_closes x ps z c = and_both (leb (leaves_out x) (length ps)) (closes ps) (le-leb (leaves_out x) (length ps) (omega (arith, z))) c

pub starts_next : {w p : List ℕ} {i e : ℕ} → Ranged w p i e → (c : Class) → starts child_in c (kids w p i e) ≡ next_is w c i e
unfolding child_in head_at
starts_next {w} {p} {i} {e} j c =
    elim (dec_lt i e) [
      | yes l ↦ rw (kids_more j.shaped j.range l) (sym (next_some w c l))
      | no l ↦ let z : e ≤ i = omega arith in rw (kids_none w p z) (sym (next_none w c z))
    ]

module _ {w p : List ℕ} {s : Settings} {n : ℕ} {at : Children} {o q : Pen} where
  -- a part that leaves out none
  pub did_part : {r : Children} (x : Part) → leaves_out x ≡ 0
      → Walked w p (part_text s (head_at w p n) x (kids w p at.next.0 at.end.0)) (part_rest x (kids w p at.next.0 at.end.0)) at o r q
      → Did w p s n (x ∷ []) at o r q
  unfolding said after
  did_part x z k = record {
    closed = and_both (leb (leaves_out x) 0) true (le-leb (leaves_out x) 0 (omega (arith, z))) refl;
    walked = walked_as (sym (append-nil (part_text s (head_at w p n) x (kids w p at.next.0 at.end.0)))) refl k;
  }

  pub did_tokens : (ps : List Part) → all_plain ps ≡ true → Wrote o (bytes ps) q → Did w p s n ps at o at q
  did_tokens ps z k =
      let h = head_at w p n in
      let rs = kids w p at.next.0 at.end.0 in
      record { closed = plain_close ps z; walked = walked_as (plain_said s h rs ps z) (plain_after s h rs ps z) (wrote_walked k) }

  pub did_name : Wrote o (text_at w p n) q → Did w p s n (text ∷ []) at o at q
  unfolding part_text part_rest head_at
  did_name k = did_part text refl (wrote_walked k)

  pub did_literal : (x : Bool) → Wrote o (literal_text s x (text_at w p n)) q → Did w p s n (literal x ∷ []) at o at q
  unfolding part_text part_rest head_at
  did_literal x k = did_part (literal x) refl (wrote_walked k)

  pub did_words : (ts : List (List ℕ)) → Wrote o (get_or ts (variant_at w n) []) q → Did w p s n (words ts ∷ []) at o at q
  unfolding part_text part_rest head_at
  did_words ts k = did_part (words ts) refl (wrote_walked k)

  -- the word that the variant chooses, or none
  pub did_chosen : (ts : List (List ℕ)) {v : ℕ} → v ≡ variant_at w n → (k : ℕ) → v ≡ k → Wrote o (get_or ts k []) q
      → Did w p s n (words ts ∷ []) at o at q
  did_chosen ts z k y x = did_words ts (wrote_as x (ap (λ (v : ℕ). get_or ts v []) (sym y ∙ z)))

  pub did_line : Wrote o (line_or_space s) q → Did w p s n (new_line_or_space ∷ []) at o at q
  unfolding part_text part_rest
  did_line k = did_part new_line_or_space refl (wrote_walked k)

module _ {w p : List ℕ} {s : Settings} {n : ℕ} {at : Children} {o : Pen} where
  pub did_none_chosen : (ts : List (List ℕ)) {v : ℕ} → v ≡ variant_at w n → length ts ≤ v → Did w p s n (words ts ∷ []) at o at o
  did_none_chosen ts z l = did_words ts (wrote_as wrote_none (sym (get_or-eq_default ts [] l) ∙ ap (λ (v : ℕ). get_or ts v []) z))

  -- ---- parts that stand only where a child of the class is next, where the node has a text, or where its variant is 1

  skipped : (x : Part) (ps : List Part) → leaves_out x ≡ length ps → closes ps ≡ true
      → (part_skip (head_at w p n) x (kids w p at.next.0 at.end.0) ≡ length ps)
      × (part_text s (head_at w p n) x (kids w p at.next.0 at.end.0) ≡ [])
      × (part_rest x (kids w p at.next.0 at.end.0) ≡ kids w p at.next.0 at.end.0)
      → Did w p s n (x ∷ ps) at o at o
  unfolding said after
  skipped x ps z c q =
      let h = head_at w p n in
      let rs = kids w p at.next.0 at.end.0 in
      record {
        closed = front_closes x ps z c;
        walked = walked_as (rw (q.0, q.1, q.2) (sym (said_none h s ps rs))) (rw (q.0, q.2) (sym (after_none h ps rs))) (wrote_walked wrote_none);
      }

  followed : {r : Children} {q : Pen} (x : Part) (ps : List Part) → leaves_out x ≡ length ps
      → (part_skip (head_at w p n) x (kids w p at.next.0 at.end.0) ≡ 0)
      × (part_text s (head_at w p n) x (kids w p at.next.0 at.end.0) ≡ [])
      × (part_rest x (kids w p at.next.0 at.end.0) ≡ kids w p at.next.0 at.end.0)
      → Did w p s n ps at o r q → Did w p s n (x ∷ ps) at o r q
  unfolding said after
  followed x ps z q k = record {
    closed = front_closes x ps z k.closed;
    walked = walked_as (rw (q.0, q.1, q.2) refl) (rw (q.0, q.2) refl) k.walked;
  }

  module _ (ps : List Part) (j : Ranged w p at.next.0 at.end.0) (c : Class) where
    pub no_child : closes ps ≡ true → next_is w c at.next.0 at.end.0 ≡ false → Did w p s n (if_next c (length ps) ∷ ps) at o at o
    unfolding part_text part_rest part_skip
    no_child k z = skipped (if_next c (length ps)) ps refl k (rw (starts_next j c, z) refl, refl, refl)

    pub a_child : {r : Children} {q : Pen} → next_is w c at.next.0 at.end.0 ≡ true → Did w p s n ps at o r q
        → Did w p s n (if_next c (length ps) ∷ ps) at o r q
    unfolding part_text part_rest part_skip
    a_child z = followed (if_next c (length ps)) ps refl (rw (starts_next j c, z) refl, refl, refl)

  module _ (ps : List Part) where
    pub no_text_lem : closes ps ≡ true → is_empty (text_at w p n) ≡ true → Did w p s n (if_text (length ps) ∷ ps) at o at o
    unfolding part_text part_rest part_skip head_at
    no_text_lem k z = skipped (if_text (length ps)) ps refl k (rw z refl, refl, refl)

    pub a_text : {r : Children} {q : Pen} → is_empty (text_at w p n) ≡ false → Did w p s n ps at o r q → Did w p s n (if_text (length ps) ∷ ps) at o r q
    unfolding part_text part_rest part_skip head_at
    a_text z = followed (if_text (length ps)) ps refl (rw z refl, refl, refl)

    pub not_one : closes ps ≡ true → eqb (variant_at w n) 1 ≡ false → Did w p s n (if_variant (length ps) ∷ ps) at o at o
    unfolding part_text part_rest part_skip head_at
    not_one k z = skipped (if_variant (length ps)) ps refl k (rw z refl, refl, refl)

    pub is_one : {r : Children} {q : Pen} → eqb (variant_at w n) 1 ≡ true → Did w p s n ps at o r q → Did w p s n (if_variant (length ps) ∷ ps) at o r q
    unfolding part_text part_rest part_skip head_at
    is_one z = followed (if_variant (length ps)) ps refl (rw z refl, refl, refl)

-- ---- a node

-- the parts of its rule are done: its text is written
pub node_written : {w p : List ℕ} {s : Settings} {n : ℕ} {ps : List Part} {at : Children} {o : Pen} {r : Children} {q : Pen}
    → rule_of (kind_at w n) ≡ ps → ChildrenOf w n at → Did w p s n ps at o r q
    → Wrote o (node_text (tree_at w p n) s) q
unfolding tree_at head_at node_text kids
node_written {w} {p} {s} {n} a c x = wrote_as x.walked.wrote (rw (a, c.next, c.end) refl)
