-- The same of what the checker's stages and the readers of vectors are made of.
use Rattle.std.specs.Prelude.{ℕ, ◌≡◌, refl, ◌<◌, List, length, slice_index, Option, Some, None, IfSome, Result, Ok, Err}
use Rattle.std.proofs.Common.{ap, sym, subst, ◌∙◌, arith, length-drop}
use Rattle.std.proofs.lemmas.Grind.{same_number_lists}
use Rattle.meaning.specs.Kind.{count}
use Rattle.meaning.specs.KindNumbers.{kind_number, Named}
use Rattle.meaning.specs.declared.kind.Kind.{Kind}
use Rattle.meaning.specs.declared.kind.NoKind.{NoKind}
use Rattle.meaning.specs.declared.NodeNumber.{NodeNumber}
use Rattle.table.specs.First.{found_or}
use Rattle.table.specs.Kinds.{one_kind, kind_is_low}
use Rattle.table.specs.Words.{Small}
use Rattle.vector_lines.specs.Parts.{Past}
use Rattle.one_answer.specs.Entries.{one_value}

-- the number of a node; of a kind `one_kind` of table/specs/Kinds.antt
pub one_place : {i : ℕ} {r s : NodeNumber} → r.0 ≡ i → s.0 ≡ i → r ≡ s
one_place e f = ap (λ (i : ℕ). record { 0 = i }) (one_value e f)

-- `first_node_fault` and the other stages
pub one_found : (n : ℕ) {i : ℕ} (r s : Option NodeNumber) → found_or n r ≡ i → IfSome r (λ k. k.0 < n) → found_or n s ≡ i → IfSome s (λ k. k.0 < n) → r ≡ s
one_found n None None e _ f _ = refl
one_found n None (Some k) e _ f l = absurd (omega arith)
one_found n (Some k) None e l f _ = absurd (omega arith)
one_found n (Some k) (Some j) e _ f _ = ap Some (one_place e f)

-- `Table::variant` and the other words
pub one_word : {r s word : ℕ} → Small r word → Small s word → r ≡ s
one_word x y = one_value x.is y.is

-- `vector_lines::past`
pub one_past_stop : {s : List ℕ} {i stop q r : ℕ} → Past s i stop q → Past s i stop r → q ≡ r
one_past_stop {s} {i} {stop} {q} {r} x y =
    let e = ap length (one_value x.rest y.rest) in
    omega (arith, e, x.within, y.within, length-drop q s, length-drop r s)

-- `Kind::try_from`
pub one_named : (n : ℕ) (r s : Result Kind NoKind) → Named n r → Named n s → r ≡ s
one_named n (Ok j) (Ok k) e f = ap Ok (one_kind j k (one_value e f))
one_named n (Ok j) (Err x) e f = absurd (omega (arith, kind_is_low j, e, f.0))
one_named n (Err x) (Ok k) e f = absurd (omega (arith, kind_is_low k, f, e.0))
one_named n (Err x) (Err y) e f = ap (λ (n : ℕ). Err (record { 0 = n })) (one_value e.1 f.1)

-- `table::by_kind`, of a closure that gives a kind one byte
pub one_by_kind : {P : Kind → ℕ → Type 0} → ((k : Kind) (x y : ℕ) → P k x → P k y → x ≡ y) → (b c : List ℕ) → length b ≡ count → length c ≡ count
    → ((i : ℕ) → i < count → (kind : Kind) × (kind_number kind ≡ i) × P kind (slice_index b i))
    → ((i : ℕ) → i < count → (kind : Kind) × (kind_number kind ≡ i) × P kind (slice_index c i)) → b ≡ c
one_by_kind {P} one b c m n x y =
    same_number_lists b c (m ∙ sym n)
    λ i l.
    let h : i < count = omega (arith, m) in
    let e = one_kind (y i h).0 (x i h).0 ((y i h).1 ∙ sym (x i h).1) in
    one (x i h).0 _ _ (x i h).2 (subst (λ k. P k (slice_index c i)) e (y i h).2)
