-- Document 01, "Refusal numbers", rows 2 to 7: the faults of a table and its nodes, and the number and place that are given.
use Rattle.std.specs.Prelude.{ℕ, zero, suc, ◌+◌, ◌%◌, ◌<◌, ◌≡◌, ◌⊎◌, ◌↔◌, Bool, true, false, not, ◌&&◌, ◌||◌, List, [], ◌∷◌, eqb, ltb, leb, length, if◌then◌else◌}
use Rattle.meaning.specs.First.{first, some, count}
use Rattle.meaning.specs.Kind
use Rattle.meaning.specs.Table.{words_per_node, nodes, kind_at, variant_at, start_at, length_at, end_at, text_at, children_at}
use Rattle.meaning.specs.Children.{no_text, TextRule, name, name_or_empty, fragment_name, enum_name, float, int, any_text, row_of, Class, is_in, fill, from◌to◌}
use Rattle.meaning.specs.Text.{text_fits}

-- one of the faults is there
abbrev pub one_of : List Bool → Bool
one_of [] = false
one_of (b ∷ bs) = b || one_of bs

-- ---- 2 size: "words not a multiple of 5, no node, over 8,192 nodes, pool over 65,536 bytes"

unfoldable pub size_fault : List ℕ → List ℕ → Bool
unfolding nodes
size_fault w p =
    one_of (not (eqb (length w % words_per_node) 0) ∷ eqb (nodes w) 0 ∷ ltb 8192 (nodes w) ∷ ltb 65536 (length p) ∷ [])

-- "literal value over 65,536"
unfoldable pub value_size_fault : List ℕ → Bool
value_size_fault v = ltb 65536 (length v)

-- ---- 3 node

abbrev pub takes_no_text : TextRule → Bool
takes_no_text no_text = true
takes_no_text name = false
takes_no_text name_or_empty = false
takes_no_text fragment_name = false
takes_no_text enum_name = false
takes_no_text float = false
takes_no_text int = false
takes_no_text any_text = false

-- "unknown kind or variant"
unfoldable pub kind_fault : List ℕ → ℕ → Bool
unfolding kind_at variant_at row_of
kind_fault w i = leb Kind.count (kind_at w i) || leb (row_of (kind_at w i)).variants (variant_at w i)

-- "text outside the pool; length 0 with start not 0; text where none is allowed"
unfoldable pub place_fault : List ℕ → List ℕ → ℕ → Bool
unfolding kind_at start_at length_at row_of
place_fault w p i =
    one_of (
    ltb (length p) (start_at w i + length_at w i)
    ∷ (eqb (length_at w i) 0 && not (eqb (start_at w i) 0))
    ∷ (takes_no_text (row_of (kind_at w i)).text && not (eqb (length_at w i) 0))
    ∷ []
    )

-- "end not above its own number or past the table; node 0 not a Document ending the table; kind 0 elsewhere"
unfoldable pub end_fault : List ℕ → ℕ → Bool
unfolding kind_at end_at nodes
end_fault w i =
    one_of (
    leb (end_at w i) i
    ∷ ltb (nodes w) (end_at w i)
    ∷ (eqb i 0 && not (eqb (kind_at w i) Kind.document && eqb (end_at w i) (nodes w)))
    ∷ (not (eqb i 0) && eqb (kind_at w i) Kind.document)
    ∷ []
    )

unfoldable pub node_fault : List ℕ → List ℕ → ℕ → Bool
unfolding kind_fault place_fault end_fault
node_fault w p i = one_of (kind_fault w i ∷ place_fault w p i ∷ end_fault w i ∷ [])

-- ---- 4 nesting: "a later node inside this subtree ends after it"

unfoldable pub nesting_fault : List ℕ → ℕ → Bool
unfolding end_at some
nesting_fault w i = some (λ j. ltb i j && ltb (end_at w i) (end_at w j)) (end_at w i)

-- ---- 5 depth: "Document is depth 0; this node is deeper than 64"

-- node k is above node i: it stands before it and ends after it
unfoldable pub is_above : List ℕ → ℕ → ℕ → Bool
unfolding end_at
is_above w i k = ltb k i && ltb i (end_at w k)

unfoldable pub depth_at : List ℕ → ℕ → ℕ
unfolding is_above count
depth_at w i = count (is_above w i) i

abbrev pub deepest : ℕ
deepest = 64

unfoldable pub depth_fault : List ℕ → ℕ → Bool
unfolding depth_at
depth_fault w i = ltb deepest (depth_at w i)

-- ---- 6 children

abbrev pub is_extension : ℕ → Bool
is_extension k = from◌to◌ Kind.extend_schema Kind.extend_input_object k

-- node i is of the class
unfoldable pub node_in : List ℕ → Class → ℕ → Bool
unfolding kind_at variant_at is_in
node_in w c i = is_in c (kind_at w i) (variant_at w i)

abbrev pub is_empty : List ℕ → Bool
is_empty [] = true
is_empty (i ∷ is) = false

-- "children not as listed"; of an extension, "at least one child"
unfoldable pub not_as_listed : List ℕ → ℕ → Bool
unfolding kind_at children_at row_of node_in fill
not_as_listed w i =
    not (fill (node_in w) (row_of (kind_at w i)).children (children_at w i)) || (is_extension (kind_at w i) && is_empty (children_at w i))

-- "kind 3 to 17 or 21"
abbrev pub is_constant : ℕ → Bool
is_constant k = from◌to◌ Kind.directive_definition Kind.extend_input_object k || eqb k Kind.variable_definition

-- "a Variable below a kind 3 to 17 or 21 (place: the Variable)"
unfoldable pub variable_fault : List ℕ → ℕ → Bool
unfolding kind_at is_above some
variable_fault w i = eqb (kind_at w i) Kind.variable && some (λ k. is_constant (kind_at w k) && is_above w i k) i

unfoldable pub children_fault : List ℕ → ℕ → Bool
unfolding not_as_listed variable_fault
children_fault w i = not_as_listed w i || variable_fault w i

-- ---- 7 text

unfoldable pub text_fault : List ℕ → List ℕ → ℕ → Bool
unfolding kind_at text_at row_of text_fits
text_fault w p i = not (text_fits (row_of (kind_at w i)).text (text_at w p i))

-- ---- "Lowest number wins .. For 3 to 7 found in a given table the place is the smallest node with that fault; otherwise 0."

-- node i has the fault of this number
unfoldable pub has_fault : List ℕ → List ℕ → ℕ → ℕ → Bool
unfolding node_fault nesting_fault depth_fault children_fault text_fault
has_fault w p m i =
    if eqb m 3 then node_fault w p i
    else if eqb m 4 then nesting_fault w i
    else if eqb m 5 then depth_fault w i
    else if eqb m 6 then children_fault w i
    else if eqb m 7 then text_fault w p i
    else false

-- what is said of a table: accepted, or a refusal's number and place
pub data Verdict : Type 0 where
  accepted : Verdict
  refusal : ℕ → ℕ → Verdict

-- the numbers from m on, n of them
unfoldable pub lowest_from : ℕ → ℕ → List ℕ → List ℕ → Verdict
unfolding has_fault first nodes
lowest_from zero m w p = accepted
lowest_from (suc n) m w p =
    let later = lowest_from n (suc m) w p in
    if ltb (first (has_fault w p m) (nodes w)) (nodes w) then refusal m (first (has_fault w p m) (nodes w)) else later

unfoldable pub verdict : List ℕ → List ℕ → Verdict
unfolding size_fault lowest_from
verdict w p = if size_fault w p then refusal 2 0 else lowest_from 5 3 w p

-- ---- the same, with nothing computed: what it is that a refusal is "given exactly when"

-- refusal m is given at node i: i has the fault, no smaller node has it, and no node has one of a lower number
pub record Given (w p : List ℕ) (m i : ℕ) : Type 0 where
  pub size_fine : size_fault w p ≡ false
  pub within : i < nodes w
  pub here : has_fault w p m i ≡ true
  pub smallest : (k : ℕ) → k < i → has_fault w p m k ≡ false
  pub lowest : (l : ℕ) → l < m → (k : ℕ) → k < nodes w → has_fault w p l k ≡ false

-- the table is accepted: it has none of the faults
pub record Accepted (w p : List ℕ) : Type 0 where
  pub size_fine : size_fault w p ≡ false
  pub none : (m : ℕ) (k : ℕ) → k < nodes w → has_fault w p m k ≡ false

-- what a verdict says of its table; "exactly when" is proved in the crate `table_laws`
abbrev pub Right : List ℕ → List ℕ → Verdict → Type 0
Right w p accepted = Accepted w p
Right w p (refusal m i) = ((m ≡ 2) × (i ≡ 0) × (size_fault w p ≡ true)) ⊎ Given w p m i

abbrev pub ExactlyWhen : List ℕ → List ℕ → Type 0
ExactlyWhen w p = (v : Verdict) → (verdict w p ≡ v) ↔ Right w p v
