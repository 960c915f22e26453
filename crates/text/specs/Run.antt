-- A run of ASCII bytes in a text. Each of them is a sequence by itself, so the check goes on after the run as before it.
use Rattle.std.specs.Prelude.{◌≡◌, List, ℕ, zero, suc, ◌+◌, ◌-◌, ◌≤◌, ◌<◌, length, get_or, drop}
use Rattle.std.proofs.Common.{ap, ◌∙◌, le_refl, arith, drop-cons}
use Rattle.std.proofs.Math.Decide.{dec_lt}
use Rattle.meaning.specs.Utf8.{utf8}
use Rattle.utf8_laws.specs.Append.{ascii_first}

-- every byte from i up to j is ASCII
pub record AsciiTo (s : List ℕ) (i j : ℕ) : Type 0 where
  pub from : i ≤ j
  pub within : j ≤ length s
  pub ascii : (k : ℕ) → i ≤ k → k < j → get_or s k 0 < 0x80

-- and the run ends at j
pub record AsciiRun (s : List ℕ) (i j : ℕ) : Type 0 where
  pub run : AsciiTo s i j
  pub ends : j < length s → 0x80 ≤ get_or s j 0

-- ---- a run grows

pub no_bytes_yet : (s : List ℕ) (i : ℕ) → i ≤ length s → AsciiTo s i i
no_bytes_yet s i h = record { from = omega arith; within = h; ascii = λ k l u. absurd (omega arith) }

pub run_after_run : (s : List ℕ) (i j k : ℕ) → AsciiTo s i j → AsciiTo s j k → AsciiTo s i k
run_after_run s i j k r t =
    record { from = omega (arith, r.from, t.from); within = t.within; ascii = λ b l u. go b l u (dec_lt b j) }
  where
    go : (b : ℕ) → i ≤ b → b < k → Dec (b < j) → get_or s b 0 < 0x80
    go b l u (yes p) = r.ascii b l p
    go b l u (no p) = t.ascii b (omega arith) u

-- by n bytes of which none is above an ASCII byte m
pub more_bytes : (s : List ℕ) (i j n m : ℕ) → AsciiTo s i j → j + n ≤ length s → m < 0x80
    → ((k : ℕ) → j ≤ k → k < j + n → get_or s k 0 ≤ m) → AsciiTo s i (j + n)
more_bytes s i j n m r w h a =
    run_after_run s i j (j + n) r (record { from = omega arith; within = w; ascii = λ k l u. omega (arith, a k l u) })

pub one_more_byte : (s : List ℕ) (i j : ℕ) → AsciiTo s i j → j < length s → get_or s j 0 < 0x80 → AsciiTo s i (j + 1)
one_more_byte s i j r w h =
    more_bytes s i j 1 (get_or s j 0) r (omega arith) h (λ k l u. let e : k ≡ j = omega arith in rw e (le_refl (get_or s j 0)))

-- ---- a run passes the check

same_place : (s : List ℕ) (i j : ℕ) → i ≡ j → utf8 (drop i s) ≡ utf8 (drop j s)
same_place s i j e = ap (λ (k : ℕ). utf8 (drop k s)) e

pub ascii_byte_passes : (s : List ℕ) (i : ℕ) → i < length s → get_or s i 0 < 0x80 → utf8 (drop i s) ≡ utf8 (drop (i + 1) s)
ascii_byte_passes s i l a =
    ap utf8 (drop-cons s i 0 l) ∙ ascii_first (get_or s i 0) (drop (suc i) s) a ∙ same_place s (suc i) (i + 1) (omega arith)

bytes_pass : (s : List ℕ) (i n : ℕ) → i + n ≤ length s → ((k : ℕ) → i ≤ k → k < i + n → get_or s k 0 < 0x80)
    → utf8 (drop i s) ≡ utf8 (drop (i + n) s)
bytes_pass s i zero w a = same_place s i (i + 0) (omega arith)
bytes_pass s i (suc n) w a =
    ascii_byte_passes s i (omega arith) (a i (omega arith) (omega arith))
    ∙ bytes_pass s (i + 1) n (omega arith) (λ k l u. a k (omega arith) (omega arith))
    ∙ same_place s (i + 1 + n) (i + suc n) (omega arith)

pub ascii_run_passes : (s : List ℕ) (i j : ℕ) → AsciiTo s i j → utf8 (drop i s) ≡ utf8 (drop j s)
ascii_run_passes s i j r =
    bytes_pass s i (j - i) (omega (arith, r.from, r.within)) (λ k l u. r.ascii k l (omega (arith, r.from)))
    ∙ same_place s (i + (j - i)) j (omega (arith, r.from))
