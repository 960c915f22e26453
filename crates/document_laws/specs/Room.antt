-- What an output's length decides of a text that is written, whichever text it is: whether it fits, and nothing else. So more room never
-- alters the text, and the length that answer 8 reports is exactly the room that it takes.
use Rattle.std.specs.Prelude.{ℕ, ◌≤◌, ◌<◌, ◌≡◌, refl, List, length, take, drop}
use Rattle.std.proofs.Common.{sym, ◌∙◌, arith}
use Rattle.std.proofs.Math.Decide.{dec_le}
use Rattle.std.proofs.Math.Seq.{take-append_seam, drop-append_seam}
use Rattle.meaning.specs.Answers.{answer}
use Rattle.meaning.specs.Entries.{Outcome, refusing, written}
use Rattle.demand.specs.Three.{written_fits, written_short}

-- after a success o, the outcome o' in the output out' is a success of the same length, with the same bytes, and bytes past it stay
pub record SameText (o o' : Outcome) (out' : List ℕ) : Type 0 where
  pub succeeds : o'.0 ≡ answer 0 0 o.0.length
  pub bytes : take o.0.length o'.1 ≡ take o.0.length o.1
  pub past : drop o.0.length o'.1 ≡ drop o.0.length out'

-- n is the room that a printing takes: it succeeds with length n in any output of n bytes or more, and any shorter one is refused with 8
-- and n
pub record Exact (n : ℕ) (print : List ℕ → Outcome) : Type 0 where
  pub enough : (out : List ℕ) → n ≤ length out → (print out).0 ≡ answer 0 0 n
  pub short : (out : List ℕ) → length out < n → print out ≡ (answer 8 0 n, out)

-- ---- a text

fits_if_written : (t out : List ℕ) → (written t out).0.number ≡ 0 → length t ≤ length out
fits_if_written t out e = go (dec_le (length t) (length out))
  where
    go : Dec (length t ≤ length out) → length t ≤ length out
    go (yes h) = h
    go (no h) =
        let z : ◌≡◌ {A = ℕ} 8 0 = rw (written_short t out (omega arith)) at e in
        absurd (omega arith)

pub written_same_text : (t out out' : List ℕ) → (written t out).0.number ≡ 0 → length out ≤ length out'
    → SameText (written t out) (written t out') out'
written_same_text t out out' e h =
    let k = fits_if_written t out e in
    rw (written_fits t out k, written_fits t out' (omega arith))
    (record {
      succeeds = refl;
      bytes = take-append_seam t (drop (length t) out') ∙ sym (take-append_seam t (drop (length t) out));
      past = drop-append_seam t (drop (length t) out');
    })

-- the length is the text's, whether it fits or not
written_length : (t out : List ℕ) → (written t out).0.length ≡ length t
written_length t out = go (dec_le (length t) (length out))
  where
    go : Dec (length t ≤ length out) → (written t out).0.length ≡ length t
    go (yes h) = rw (written_fits t out h)
    go (no h) = rw (written_short t out (omega arith))

pub written_is_exact : (t out : List ℕ) → Exact (written t out).0.length (written t)
written_is_exact t out =
    rw (written_length t out)
    (record { enough = λ out' h. rw (written_fits t out' h); short = λ out' h. written_short t out' h })

-- ---- a printing: one refusal whatever the output, neither success nor 8; or a text that is written

pub data Prints (print : List ℕ → Outcome) : Type 0 where
  refuses : (number place : ℕ) → (number ≡ 0 → ⊥) → (number ≡ 8 → ⊥) → ((out : List ℕ) → print out ≡ refusing number place out)
      → Prints print
  writes : (text : List ℕ) → ((out : List ℕ) → print out ≡ written text out) → Prints print

pub prints_same_text : {print : List ℕ → Outcome} → Prints print → (out out' : List ℕ) → (print out).0.number ≡ 0 → length out ≤ length out'
    → SameText (print out) (print out') out'
prints_same_text (refuses number place zero eight same) out out' e h = absurd (zero (rw (same out) at e))
prints_same_text (writes text same) out out' e h =
    rw (same out, same out') (written_same_text text out out' (rw (same out) at e) h)

pub printing_is_exact : {print : List ℕ → Outcome} → Prints print → (out : List ℕ) → (print out).0.number ≡ 8
    → Exact (print out).0.length print
printing_is_exact (refuses number place zero eight same) out e = absurd (eight (rw (same out) at e))
printing_is_exact (writes text same) out e =
    let x = written_is_exact text out in
    rw (same out)
    (record { enough = λ out' h. rw (same out') (x.enough out' h); short = λ out' h. same out' ∙ x.short out' h })
