-- Every literal of a UTF-8 value is UTF-8, since both forms are; its indentation is blank since the prefix is.
use Rattle.std.specs.Prelude.{◌≡◌, Bool, List, [], ◌∷◌, ◌++◌, ℕ, zero, suc, if◌then◌else◌}
use Rattle.std.proofs.Math.Path.{refl}
use Rattle.std.proofs.Math.Bool.{true, false}
use Rattle.base.specs.Bools.{and_left, and_right, and_both}
use Rattle.meaning.specs.Utf8.{utf8}
use Rattle.meaning.specs.Settings.{Settings, is_blank, blank, times, indentation}
use Rattle.meaning.specs.Quoted.{quoted}
use Rattle.meaning.specs.Block.{block_string}
use Rattle.meaning.specs.Literal.{takes_block, literal}
use Rattle.utf8_laws.specs.QuotedText.{quoted_is_utf8}
use Rattle.utf8_laws.specs.BlockText.{block_is_utf8}

blank_append : (p q : List ℕ) → blank p ≡ true → blank q ≡ true → blank (p ++ q) ≡ true
unfolding blank
blank_append [] q h g = g
blank_append (b ∷ p) q h g =
    and_both (is_blank b) (blank (p ++ q)) (and_left (is_blank b) (blank p) h) (blank_append p q (and_right (is_blank b) (blank p) h) g)

times_is_blank : (n : ℕ) (p : List ℕ) → blank p ≡ true → blank (times n p) ≡ true
unfolding times
times_is_blank zero p h = unfold blank in refl
times_is_blank (suc n) p h = blank_append p (times n p) h (times_is_blank n p h)

pub indentation_is_blank : (s : Settings) → blank s.prefix ≡ true → blank (indentation s) ≡ true
unfolding indentation
indentation_is_blank s h = times_is_blank s.level s.prefix h

pub literal_is_utf8 : (s : Settings) (d : Bool) (v : List ℕ) → blank s.prefix ≡ true → utf8 v ≡ true → utf8 (literal s d v) ≡ true
literal_is_utf8 s d v p h = unfold literal in go (takes_block s d v)
  where
    go : (x : Bool) → utf8 (if x then block_string (indentation s) v else quoted v) ≡ true
    go true = block_is_utf8 (indentation s) v (indentation_is_blank s p) h
    go false = quoted_is_utf8 v h
