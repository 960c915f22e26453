-- Demand 3, whole. Printing and reading are functions of the defined literal, so each part follows from a law of that literal.
use Rattle.std.specs.Prelude.{ℕ, ◌≤◌, ◌<◌, ◌≡◌, Bool, true, false, not, List, ◌++◌, ltb, length, drop}
use Rattle.std.proofs.Common.{◌∙◌, arith, le-leb}
use Rattle.std.proofs.Math.Option.{some}
use Rattle.std.proofs.Math.Decide.{dec_le}
use Rattle.std.proofs.Math.Seq.{take-append_seam}
use Rattle.std.proofs.lemmas.Bool.{lt-leb}
use Rattle.base.specs.Bools.{or_left_false, or_right_false, not_false}
use Rattle.meaning.specs.Settings.{Settings, blank, literal_levels, settings_fault}
use Rattle.meaning.specs.Literal.{literal}
use Rattle.meaning.specs.Answers.{answer}
use Rattle.meaning.specs.Entries.{written, printed_literal, read_literal}
use Rattle.meaning.specs.Demand.{form_of, ReadsBack, Printable, Demand3}
use Rattle.literal_laws.specs.Bounded.{bounded}
use Rattle.literal_laws.specs.BlockExactly.{block_exactly}
use Rattle.literal_laws.specs.LiteralReads.{reads_back_if}
use Rattle.utf8_laws.specs.LiteralText.{literal_is_utf8}

pub reads_back : (s : Settings) (d : Bool) (v : List ℕ) → ReadsBack s d v
reads_back s d v h u = reads_back_if s d v (literal_is_utf8 s d v h u) h

-- what `written` answers, by whether the text fits
pub written_fits : (t out : List ℕ) → length t ≤ length out → written t out ≡ (answer 0 0 (length t), t ++ drop (length t) out)
unfolding written
written_fits t out h = rw (le-leb (length t) (length out) h)

pub written_short : (t out : List ℕ) → length out < length t → written t out ≡ (answer 8 0 (length t), out)
unfolding written
written_short t out h = rw (lt-leb (length t) (length out) h)

pub prefix_is_blank : (s : Settings) → settings_fault literal_levels s ≡ false → blank s.prefix ≡ true
unfolding settings_fault
prefix_is_blank s h =
    let later = or_right_false (ltb 16 (length s.prefix)) _ h in
    not_false (blank s.prefix) (or_left_false (not (blank s.prefix)) (ltb literal_levels s.level) later)

module _ (s : Settings) (d : Bool) (v : List ℕ) (p : Printable s v) where
  pub printed_is_written : (out : List ℕ) → printed_literal s d v out ≡ written (literal s d v) out
  unfolding printed_literal
  printed_is_written out = rw (p.settings_fine, p.size_fine, p.is_utf8)

  pub printed_fits : (out : List ℕ) → length (literal s d v) ≤ length out → printed_literal s d v out ≡ (answer 0 0 (length (literal s d v)), literal s d v ++ drop (length (literal s d v)) out)
  printed_fits out h = printed_is_written out ∙ written_fits (literal s d v) out h

  succeeds : (out : List ℕ) → (printed_literal s d v out).0.number ≡ 0 → length (literal s d v) ≤ length out
  succeeds out e = go (dec_le (length (literal s d v)) (length out))
    where
      go : Dec (length (literal s d v) ≤ length out) → length (literal s d v) ≤ length out
      go (yes h) = h
      go (no h) =
          let z : ◌≡◌ {A = ℕ} 8 0 = rw (printed_is_written out, written_short (literal s d v) out (omega arith)) at e in
          absurd (omega arith)

  pub demand_3 : Demand3 s d v
  demand_3 = record {
    succeeds = λ out. (succeeds out, λ h. rw (printed_fits out h));
    same_text = λ out h. rw (printed_fits out h) (take-append_seam (literal s d v) (drop (length (literal s d v)) out));
    read_back = λ out h. back out h;
    in_block = block_exactly s d v;
    bounds = bounded s d v;
  }
    where
      back : (out : List ℕ) → length v ≤ length out → read_literal (literal s d v) out ≡ (answer 0 0 (length v), some (form_of s d v), v ++ drop (length v) out)
      back out h = unfold read_literal in rw (reads_back s d v (prefix_is_blank s p.settings_fine) p.is_utf8, written_fits v out h)
