-- Every literal reads back as its value, in the form that it was written in: the two forms do, and a prefix of spaces and tabs makes
-- such an indentation.
use Rattle.std.specs.Prelude.{◌≡◌, Bool, true, false, ◌&&◌, ◌||◌, List, [], ◌∷◌, ◌++◌, ℕ, zero, suc, if◌then◌else◌}
use Rattle.std.proofs.Math.Path.{refl}
use Rattle.base.specs.Bools.{and_left, and_right, and_both}
use Rattle.meaning.specs.Ascii.{line_feed}
use Rattle.meaning.specs.Utf8.{utf8}
use Rattle.meaning.specs.Settings.{Settings, is_blank, blank, times, indentation}
use Rattle.meaning.specs.Quoted.{quoted}
use Rattle.meaning.specs.Block.{has, can_be_block_string, block_string}
use Rattle.meaning.specs.Literal.{takes_block, literal}
use Rattle.meaning.specs.Reading.{value, quoted_form, block_form, string_value, reading}
use Rattle.meaning.specs.Demand.{form_of}
use Rattle.literal_laws.specs.QuotedReads.{quoted_reads_back}
use Rattle.literal_laws.specs.BlockReads.{block_reads_back}

appended_blank : (p q : List ℕ) → blank p ≡ true → blank q ≡ true → blank (p ++ q) ≡ true
unfolding blank
appended_blank [] q h k = k
appended_blank (b ∷ p) q h k =
    and_both (is_blank b) (blank (p ++ q)) (and_left (is_blank b) (blank p) h) (appended_blank p q (and_right (is_blank b) (blank p) h) k)

times_blank : (n : ℕ) (p : List ℕ) → blank p ≡ true → blank (times n p) ≡ true
unfolding times
times_blank zero p h = unfold blank in refl
times_blank (suc n) p h = appended_blank p (times n p) h (times_blank n p h)

pub indentation_blank : (s : Settings) → blank s.prefix ≡ true → blank (indentation s) ≡ true
unfolding indentation
indentation_blank s h = times_blank s.level s.prefix h

pub block_taken_keeps_rule : (s : Settings) (d : Bool) (v : List ℕ) → takes_block s d v ≡ true → can_be_block_string v ≡ true
unfolding takes_block
block_taken_keeps_rule s d v h =
    let a = d || has line_feed v in
    and_right a (can_be_block_string v) (and_right s.breaks (a && can_be_block_string v) h)

pub literal_reads_back : (s : Settings) (d : Bool) (v : List ℕ) → blank s.prefix ≡ true
    → string_value (literal s d v) ≡ value (form_of s d v) v
unfolding literal form_of
literal_reads_back s d v h = go (takes_block s d v) refl
  where
    go : (x : Bool) → takes_block s d v ≡ x
        → string_value (if x then block_string (indentation s) v else quoted v) ≡ value (if x then block_form else quoted_form) v
    go true e = block_reads_back (indentation s) v (indentation_blank s h) (block_taken_keeps_rule s d v e)
    go false e = quoted_reads_back v

-- where the literal is UTF-8, its reading is that value
pub reads_back_if : (s : Settings) (d : Bool) (v : List ℕ) → utf8 (literal s d v) ≡ true → blank s.prefix ≡ true
    → reading (literal s d v) ≡ value (form_of s d v) v
reads_back_if s d v u h = by_utf8 (literal s d v) u (literal_reads_back s d v h)
  where
    by_utf8 : (text : List ℕ) → utf8 text ≡ true → string_value text ≡ value (form_of s d v) v → reading text ≡ value (form_of s d v) v
    by_utf8 text u e = unfold reading in rw (u, e)
