-- Blanks are what the library's `all` says of each byte; a turn of a walk over them, and its end.
use Rattle.std.specs.Prelude.{◌≡◌, refl, true, false, List, [], ◌∷◌, ℕ, ◌+◌, ◌≤◌, ◌<◌, length, drop, get_or}
use Rattle.std.specs.List.{list_all}
use Rattle.std.proofs.Common.{add-one, drop_of_length-le, drop-cons}
use Rattle.meaning.specs.Settings.{is_blank, blank}

pub blank_all : (s : List ℕ) → list_all is_blank s ≡ blank s
unfolding blank is_blank
blank_all [] = refl
blank_all (b ∷ s) = rw (blank_all s) refl

module _ (s : List ℕ) (i : ℕ) (h : i < length s) where
  pub blank_next : is_blank (get_or s i 0) ≡ true → blank (drop (i + 1) s) ≡ blank (drop i s)
  unfolding blank
  blank_next e = rw (add-one i, drop-cons s i 0 h, e)

  pub other_byte : is_blank (get_or s i 0) ≡ false → blank (drop i s) ≡ false
  unfolding blank
  other_byte e = rw (drop-cons s i 0 h, e)

pub blank_over : (s : List ℕ) (i : ℕ) → length s ≤ i → blank (drop i s) ≡ true
unfolding blank
blank_over s i h = rw (drop_of_length-le s h)
