-- Refusals that document 01 fixes: the smallest tables, each fault by itself, the lowest number and the smallest node.
use Rattle.std.specs.Prelude.{◌≡◌, refl, true, false, List, [], ◌∷◌, ◌++◌, ℕ, zero, suc, ◌*◌, length}
use Prim.Native.String.{String}
use Rattle.meaning.specs.Ascii.{ascii}
use Rattle.meaning.specs.Children.{TextRule, name, name_or_empty, fragment_name, enum_name, float, int}
use Rattle.meaning.specs.Text.{text_fits}
use Rattle.meaning.specs.Refusals.{accepted, refusal, verdict, size_fault, value_size_fault}
use Rattle.meaning.specs.Known.{query_of_a}

-- a node in front of the others
abbrev node : ℕ → ℕ → ℕ → ℕ → ℕ → List ℕ → List ℕ
node kind variant start size end w = kind ∷ variant ∷ start ∷ size ∷ end ∷ w

-- a Document that ends at e, an Operation that ends there too, and its selections
abbrev query : ℕ → List ℕ → List ℕ
query e w = node 0 0 0 0 e (node 1 0 0 0 e w)

abbrev document : ℕ → List ℕ → List ℕ
document e w = node 0 0 0 0 e w

-- ---- 2

sizes :
    (verdict [] [] ≡ refusal 2 0)
    × (verdict (0 ∷ 0 ∷ 0 ∷ 0 ∷ []) [] ≡ refusal 2 0)
    × (verdict (document 1 (0 ∷ [])) [] ≡ refusal 2 0)
    × (verdict (document 1 []) [] ≡ accepted)
unfolding verdict
sizes = (refl, refl, refl, refl)

sizes_at_their_limits : (w p : List ℕ)
    → (length w ≡ 8192 * 5 → length p ≡ 65536 → size_fault w p ≡ false)
    × (length w ≡ 8193 * 5 → length p ≡ 65536 → size_fault w p ≡ true)
    × (length w ≡ 8192 * 5 → length p ≡ 65537 → size_fault w p ≡ true)
    × (length p ≡ 65536 → value_size_fault p ≡ false)
    × (length p ≡ 65537 → value_size_fault p ≡ true)
unfolding size_fault value_size_fault
sizes_at_their_limits w p = (λ e f. rw (e, f), λ e f. rw e, λ e f. rw (e, f), λ f. rw f, λ f. rw f)

-- ---- 3, in the order of its row; the pool has one byte

abbrev Node : List ℕ → ℕ → Type 0
Node w i = verdict w (ascii "a") ≡ refusal 3 i

nodes_are_known :
    Node (document 2 (node 45 0 0 1 2 [])) 1
    × Node (document 2 (node 1 3 0 0 2 [])) 1
    × Node (document 2 (node 2 1 0 1 2 [])) 1
    × Node (document 2 (node 3 2 0 1 2 [])) 1
    × Node (document 2 (node 25 3 0 1 2 [])) 1
    × Node (document 2 (node 28 19 0 0 2 [])) 1
    × Node (document 2 (node 33 2 0 1 2 [])) 1
    × Node (document 2 (node 34 2 0 0 2 [])) 1
    × Node (document 2 (node 35 1 0 0 2 [])) 1
    × Node (document 2 (node 36 2 0 0 2 [])) 1
    × Node (document 2 (node 5 0 0 2 2 [])) 1
    × Node (document 2 (node 5 0 1 1 2 [])) 1
    × Node (document 2 (node 5 0 0xFFFFFFFF 2 2 [])) 1
    × Node (document 2 (node 1 0 1 0 2 [])) 1
    × Node (document 2 (node 4 0 0 1 2 [])) 1
    × Node (document 2 (node 28 0 0 1 2 [])) 1
    × Node (document 2 (node 42 0 0 1 2 [])) 1
    × Node (document 2 (node 5 0 0 1 1 [])) 1
    × Node (document 2 (node 5 0 0 1 3 [])) 1
    × Node (document 0 []) 0
    × Node (document 1 (node 5 0 0 1 2 [])) 0
    × Node (node 5 0 0 1 1 []) 0
    × Node (document 2 (document 2 [])) 1
unfolding verdict
nodes_are_known =
    (refl, refl, refl, refl, refl, refl, refl, refl, refl, refl, refl, refl, refl, refl, refl, refl, refl, refl, refl, refl, refl, refl, refl)

-- ---- 4: node 1 ends before node 3, which it holds; the smallest such node is named, and 3 goes before 4

nesting :
    (verdict (document 5 (node 5 0 0 1 4 (node 5 0 0 1 3 (node 5 0 0 1 5 (node 5 0 0 1 5 []))))) (ascii "a") ≡ refusal 4 1)
    × (verdict (document 5 (node 5 0 0 1 4 (node 5 0 0 1 3 (node 5 0 0 1 5 (node 5 0 9 9 5 []))))) (ascii "a") ≡ refusal 3 4)
    × (verdict (query 5 (node 29 0 0 1 4 (node 29 0 0 1 5 (node 29 0 0 1 5 [])))) (ascii "a") ≡ refusal 4 2)
unfolding verdict
nesting = (refl, refl, refl)

-- ---- 5: a Document, an Operation and n fields, each in the one before; 64 is allowed and 65 is refused

abbrev chain : ℕ → ℕ → List ℕ
chain zero e = []
chain (suc n) e = node 29 0 0 1 e (chain n e)

depth :
    (verdict (query 65 (chain 63 65)) (ascii "a") ≡ accepted)
    × (verdict (query 66 (chain 64 66)) (ascii "a") ≡ refusal 5 65)
    × (verdict (query 67 (chain 65 67)) (ascii "a") ≡ refusal 5 65)
    × (verdict (query 66 (chain 64 66)) (ascii "-") ≡ refusal 5 65)
unfolding verdict
depth = (refl, refl, refl, refl)

-- ---- 6

abbrev Children : List ℕ → ℕ → Type 0
Children w i = verdict w (ascii "a") ≡ refusal 6 i

abbrev Accepted : List ℕ → Type 0
Accepted w = verdict w (ascii "a") ≡ accepted

children_are_listed :
    Children (query 2 []) 1
    × Children (document 2 (node 29 0 0 1 2 [])) 0
    × Children (query 4 (node 29 0 0 1 3 (node 19 0 0 1 4 []))) 1
    × Accepted (query 4 (node 19 0 0 1 3 (node 29 0 0 1 4 [])))
    × Children (document 4 (node 2 0 0 1 4 (node 33 1 0 1 3 (node 29 0 0 1 4 [])))) 1
    × Accepted (document 4 (node 2 0 0 1 4 (node 33 0 0 1 3 (node 29 0 0 1 4 []))))
    × Accepted (document 2 (node 5 0 0 1 2 []))
    × Children (document 2 (node 12 0 0 1 2 [])) 1
    × Accepted (document 3 (node 12 0 0 1 3 (node 19 0 0 1 3 [])))
    × Children (document 3 (node 12 0 0 1 3 (node 18 0 0 1 3 []))) 1
    × Children (document 2 (node 4 0 0 0 2 [])) 1
    × Accepted (document 3 (node 11 0 0 0 3 (node 19 0 0 1 3 [])))
    × Children (document 4 (node 5 0 0 1 4 (node 18 0 0 1 3 (node 18 0 0 1 4 [])))) 1
    × Children (document 2 (node 3 0 0 1 2 [])) 1
    × Accepted (document 3 (node 3 1 0 1 3 (node 28 18 0 0 3 [])))
    × Children (document 5 (node 6 0 0 1 5 (node 23 0 0 1 4 (node 33 0 0 1 4 (node 26 0 0 1 5 []))))) 1
    × Accepted (document 5 (node 6 0 0 1 5 (node 26 0 0 1 3 (node 23 0 0 1 5 (node 33 0 0 1 5 [])))))
    × Children (document 3 (node 34 0 0 0 3 (node 33 0 0 1 3 []))) 0
    × Children (document 4 (node 5 0 0 1 4 (node 19 0 0 1 4 (node 20 0 0 1 4 [])))) 3
    × Children (query 4 (node 29 0 0 1 4 (node 20 0 0 1 4 []))) 3
    × Children (query 5 (node 31 0 0 1 5 (node 19 0 0 1 4 (node 29 0 0 1 5 [])))) 2
unfolding verdict
children_are_listed =
    (refl, refl, refl, refl, refl, refl, refl, refl, refl, refl, refl, refl, refl, refl, refl, refl, refl, refl, refl, refl, refl)

-- "a Variable below a kind 3 to 17 or 21 (place: the Variable)": in a field's argument it may stand, in a default value not
variables :
    Accepted (query 5 (node 29 0 0 1 5 (node 20 0 0 1 5 (node 39 0 0 1 5 []))))
    × Accepted (query 6 (node 29 0 0 1 6 (node 20 0 0 1 6 (node 42 0 0 0 6 (node 39 0 0 1 6 [])))))
    × Children (query 6 (node 21 0 0 1 5 (node 33 0 0 1 4 (node 39 0 0 1 5 (node 29 0 0 1 6 []))))) 4
    × Children (document 5 (node 5 0 0 1 5 (node 19 0 0 1 5 (node 20 0 0 1 5 (node 39 0 0 1 5 []))))) 4
    × Children (document 5 (node 12 0 0 1 5 (node 19 0 0 1 5 (node 20 0 0 1 5 (node 39 0 0 1 5 []))))) 4
    × Children (document 6 (node 3 0 0 1 6 (node 22 0 0 1 5 (node 33 0 0 1 4 (node 39 0 0 1 5 (node 28 0 0 0 6 [])))))) 4
unfolding verdict
variables = (refl, refl, refl, refl, refl, refl)

-- ---- 7

abbrev Fits : TextRule → String → Type 0
Fits r s = text_fits r (ascii s) ≡ true

abbrev Not : TextRule → String → Type 0
Not r s = text_fits r (ascii s) ≡ false

names :
    Fits name "_" × Fits name "aZ_9" × Fits name "on" × Fits name "true" × Not name "" × Not name "9a" × Not name "a-b" × Not name "a b"
    × Fits name_or_empty ""
    × Fits name_or_empty "a"
    × Not name_or_empty "9"
    × Fits fragment_name "On"
    × Fits fragment_name "one"
    × Not fragment_name "on"
    × Not fragment_name ""
    × Fits enum_name "on"
    × Fits enum_name "True"
    × Fits enum_name "nulls"
    × Not enum_name "true"
    × Not enum_name "false"
    × Not enum_name "null"
    × Not enum_name ""
unfolding text_fits
names =
    (refl, refl, refl, refl, refl, refl, refl, refl, refl, refl, refl, refl, refl, refl, refl, refl, refl, refl, refl, refl, refl, refl)

numbers :
    Fits int "0" × Fits int "-0" × Fits int "10" × Fits int "-19" × Not int "" × Not int "-" × Not int "01" × Not int "+1" × Not int "1.0" × Not int "1a" × Not int "00"
    × Fits float "0.0"
    × Fits float "-1.50"
    × Fits float "1e10"
    × Fits float "1E+0"
    × Fits float "1.5e-3"
    × Not float ""
    × Not float "1"
    × Not float "1."
    × Not float ".5"
    × Not float "1e"
    × Not float "1e+"
    × Not float "1.e1"
    × Not float "01.5"
    × Not float "1.5e"
    × Not float "1.5.5"
    × Not float "1e1.5"
unfolding text_fits
numbers =
    (refl, refl, refl, refl, refl, refl, refl, refl, refl, refl, refl, refl, refl, refl, refl, refl, refl, refl, refl, refl, refl, refl, refl, refl, refl, refl, refl)

-- the smallest node, and 6 before 7
texts :
    (verdict query_of_a (ascii "-") ≡ refusal 7 2)
    × (verdict (query 4 (node 29 0 0 1 3 (node 29 0 1 1 4 []))) (ascii "--") ≡ refusal 7 2)
    × (verdict (query 3 (node 29 0 0 0 3 [])) (ascii "a") ≡ refusal 7 2)
    × (verdict (query 3 (node 31 0 0 2 3 [])) (ascii "on") ≡ refusal 7 2)
    × (verdict (document 4 (node 9 0 0 1 4 (node 18 0 4 1 3 (node 24 0 0 4 4 [])))) (ascii "true" ++ 0xFF ∷ []) ≡ refusal 7 2)
    × (verdict (document 4 (node 9 0 0 1 4 (node 18 0 0 4 3 (node 24 0 0 4 4 [])))) (ascii "true") ≡ refusal 7 3)
    × (verdict (document 3 (node 9 0 0 1 3 (node 23 0 0 1 3 []))) (ascii "-") ≡ refusal 6 1)
unfolding verdict
texts = (refl, refl, refl, refl, refl, refl, refl)
