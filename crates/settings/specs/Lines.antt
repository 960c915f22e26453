-- New lines, breaks on and off.
use Rattle.std.specs.Prelude.{◌≡◌, Bool, true, false, List, [], ◌∷◌, ◌++◌, ℕ}
use Rattle.meaning.specs.Ascii.{ascii, line_feed}
use Rattle.meaning.specs.Settings.{settings, times, new_line, new_line_or_space, indentation}

module _ (b : Bool) (prefix : List ℕ) (level : ℕ) where
  pub line_off : b ≡ false → [] ≡ new_line (settings b prefix level)
  unfolding new_line
  line_off z = rw z

  pub line_on : b ≡ true → (line_feed ∷ []) ++ times level prefix ≡ new_line (settings b prefix level)
  unfolding new_line indentation
  line_on z = rw z

  pub space_off : b ≡ false → ascii " " ≡ new_line_or_space (settings b prefix level)
  unfolding new_line_or_space
  space_off z = rw z

  pub space_on : b ≡ true → new_line (settings b prefix level) ≡ new_line_or_space (settings b prefix level)
  unfolding new_line new_line_or_space
  space_on z = rw z
