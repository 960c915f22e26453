-- What a table file's answer says of lengths: the stored words lie in the lent ones, and the pool begins within the file.
use Rattle.std.specs.Prelude.{◌≡◌, refl, Bool, true, false, not, Result, Ok, Err, List, ◌++◌, ℕ, zero, suc, ◌+◌, ◌*◌, ◌≤◌, eqb, ltb, length, drop, if◌then◌else◌}
use Rattle.std.proofs.Common.{sym, ap, ◌∙◌, arith, length-append, eqb-true}
use Rattle.meaning.specs.declared.Offset.{Offset}
use Rattle.table_file.specs.declared.FileRefusal.{FileRefusal}
use Rattle.table_file.specs.declared.FileRefusal.TheVariants.{NotATable, WrongLength, Room}
use Rattle.table_file.specs.declared.Head.{Head}
use Rattle.table_file.specs.declared.TableFile.{TableFile}
use Rattle.table_file.specs.File.{number_at, numbers_at, is_table_file, words_told, length_told, head_of, table_told, table_under, table_of}

pub numbers_length : (n : ℕ) (s : List ℕ) (i : ℕ) → length (numbers_at n s i) ≡ n
unfolding numbers_at
numbers_length zero s i = refl
numbers_length (suc n) s i = ap suc (numbers_length n s (i + 4))

-- a file that tells of n words is long enough for them
pub words_within : (s : List ℕ) {h : Result Head FileRefusal} (n l : ℕ) → h ≡ head_of s → h ≡ Ok (record { words = n; length = l }) → 16 + 4 * n ≤ l
unfolding head_of length_told
words_within s n l e k = go (is_table_file s) (ltb (length s) 16) (sym e ∙ k)
  where
    told : ℕ → ℕ → Head
    told w m = record { words = w; length = m }

    go : (a b : Bool) → ◌≡◌ {A = Result Head FileRefusal} (if not a then Err NotATable else if b then Err WrongLength else Ok (told (words_told s) (16 + 4 * words_told s + number_at s 12))) (Ok (told n l))
        → 16 + 4 * n ≤ l
    go false b q = absurd (cc)
    go true true q = absurd (cc)
    go true false q =
        let heads : told (words_told s) (16 + 4 * words_told s + number_at s 12) ≡ told n l = cc in
        omega (arith, ap (λ (h : Head). h.words) heads, ap (λ (h : Head). h.length) heads)

pub table_within : (s d t : List ℕ) (n : ℕ) (p : Offset) → (Ok (record { words = n; pool = p }), t) ≡ table_of s d → (n ≤ length t) × (p.0 ≤ length s)
unfolding table_of table_under
table_within s d t n p e = go (head_of s) refl e
  where
    Read : Type 0
    Read = Result TableFile FileRefusal × List ℕ

    first : {a b : Read} → a ≡ b → a.0 ≡ b.0
    first q = ap (λ (x : Read). x.0) q

    found : TableFile
    found = record { words = n; pool = p }

    table : (h : Head) → head_of s ≡ Ok h → (a b : Bool) → eqb (length s) h.length ≡ a
        → ◌≡◌ {A = Read} (Ok found, t) (if not a then (Err WrongLength, d) else if b then (Err (Room h.words), d) else (Ok (table_told h.words), numbers_at h.words s 16 ++ drop h.words d))
        → (n ≤ length t) × (p.0 ≤ length s)
    table h told false b k q = let f = first q in absurd (cc)
    table h told true true k q = let f = first q in absurd (cc)
    table h told true false k q =
        let f = first q in
        let tables : found ≡ table_told h.words = cc in
        let x = ap (λ (r : TableFile). r.words) tables in
        let y = ap (λ (r : TableFile). r.pool.0) tables in
        let v : t ≡ numbers_at h.words s 16 ++ drop h.words d = ap (λ (x : Read). x.1) q in
        let u : length t ≡ h.words + length (drop h.words d) = ap length v ∙ simp (length-append, numbers_length) in
        (omega arith, omega (arith, words_within s h.words h.length refl told, eqb-true (length s) h.length k))

    go : (h : Result Head FileRefusal) → head_of s ≡ h → (Ok found, t) ≡ table_under h s d → (n ≤ length t) × (p.0 ≤ length s)
    go (Err refusal) h q = let f = first q in absurd (cc)
    go (Ok head) h q = table head h (eqb (length s) head.length) (ltb (length d) head.words) refl q
