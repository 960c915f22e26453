-- A turn of the walks that count: blanks, the bytes of a line, and the bytes of a run, each a number of bytes from a place on.
use Rattle.std.specs.Prelude.{◌≡◌, Bool, List, [], ◌∷◌, ℕ, suc, ◌+◌, ◌≤◌, ◌<◌, length, get_or, if◌then◌else◌}
use Rattle.std.proofs.Math.Bool.{true, false}
use Rattle.std.proofs.Math.Numerals.{add-one}
use Rattle.std.proofs.Common.{arith, length-drop, drop_of_length-le, drop-cons}
use Rattle.std.proofs.Math.ListN.{drop}
use Rattle.meaning.specs.Settings.{is_blank}
use Rattle.meaning.specs.Block.{indent}
use Rattle.read_block_laws.specs.FirstLine.{is_line_end, line_length}
use Rattle.read_block_laws.specs.Text.{stops, run_length, run_within}

indent_within : (s : List ℕ) → indent s ≤ length s
unfolding indent
indent_within [] = omega arith
indent_within (b ∷ s) = go (is_blank b) (indent_within s)
  where
    go : (x : Bool) → indent s ≤ length s → (if x then suc (indent s) else 0) ≤ length (b ∷ s)
    go true h = omega arith
    go false h = omega arith

-- the blanks, or the run, from i on end at e
module _ (s : List ℕ) (i e : ℕ) (h : i < length s) where
  pub blanks_end_within : e ≡ i + indent (drop i s) → e ≤ length s
  blanks_end_within a = omega (arith, indent_within (drop i s), length-drop i s)

  pub blanks_end_before : e ≡ i + indent (drop i s) → (e ≡ length s → ⊥) → e < length s
  blanks_end_before a k = omega (arith, blanks_end_within a)

  pub run_ends_within : e ≡ i + run_length (drop i s) → e ≤ length s
  run_ends_within a = omega (arith, run_within (drop i s), length-drop i s)

  pub run_ends_before : e ≡ i + run_length (drop i s) → (e ≡ length s → ⊥) → e < length s
  run_ends_before a k = omega (arith, run_ends_within a)

-- nothing is left to be counted
module _ (s : List ℕ) (j : ℕ) (h : length s ≤ j) where
  pub no_blank_left : j + indent (drop j s) ≡ j
  no_blank_left = rw (drop_of_length-le s h) (unfold indent in omega arith)

  pub no_line_left : j + line_length (drop j s) ≡ j
  no_line_left = rw (drop_of_length-le s h) (unfold line_length in omega arith)

  pub no_run_left : j + run_length (drop j s) ≡ j
  no_run_left = rw (drop_of_length-le s h) (unfold run_length in omega arith)

module _ (s : List ℕ) (j : ℕ) (h : j < length s) where
  here : drop j s ≡ get_or s j 0 ∷ drop (suc j) s
  here = drop-cons s j 0 h

  pub one_blank_more : is_blank (get_or s j 0) ≡ true → j + 1 + indent (drop (j + 1) s) ≡ j + indent (drop j s)
  one_blank_more e = rw (here, add-one j) (unfold indent in rw e (omega arith))

  pub blanks_end_here : is_blank (get_or s j 0) ≡ false → j + indent (drop j s) ≡ j
  blanks_end_here e = rw here (unfold indent in rw e (omega arith))

  pub line_one_more : is_line_end (get_or s j 0) ≡ false → j + 1 + line_length (drop (j + 1) s) ≡ j + line_length (drop j s)
  line_one_more e = rw (here, add-one j) (unfold line_length in rw e (omega arith))

  pub line_ends_here : is_line_end (get_or s j 0) ≡ true → j + line_length (drop j s) ≡ j
  line_ends_here e = rw here (unfold line_length in rw e (omega arith))

  pub run_one_more : stops (drop j s) ≡ false → j + 1 + run_length (drop (j + 1) s) ≡ j + run_length (drop j s)
  unfolding run_length
  run_one_more e =
      let f : stops (get_or s j 0 ∷ drop (suc j) s) ≡ false = rw here at e in
      rw (here, add-one j, f) (omega arith)

  pub run_ends_here : stops (drop j s) ≡ true → j + run_length (drop j s) ≡ j
  unfolding run_length
  run_ends_here e =
      let f : stops (get_or s j 0 ∷ drop (suc j) s) ≡ true = rw here at e in
      rw (here, f) (omega arith)
