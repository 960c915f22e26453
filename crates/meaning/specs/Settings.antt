-- Document 01, "Refusal numbers", row 1, and "Layout": the settings, their faults, the default, and new lines.
use Rattle.std.specs.Prelude.{Bool, true, false, not, ◌&&◌, ◌||◌, List, [], ◌∷◌, ◌++◌, ℕ, zero, suc, ◌+◌, eqb, ltb, length, if◌then◌else◌}
use Rattle.meaning.specs.Ascii.{space, tab, line_feed}

pub record Settings : Type 0 where
  pub breaks : Bool
  pub prefix : List ℕ
  pub level : ℕ

abbrev pub settings : Bool → List ℕ → ℕ → Settings
settings b p l = record { breaks = b; prefix = p; level = l }

-- "Default: line breaks on, prefix two spaces, level 0."
abbrev pub default_settings : Settings
default_settings = settings true (space ∷ space ∷ []) 0

-- spaces and tabs
unfoldable pub is_blank : ℕ → Bool
is_blank b = eqb b space || eqb b tab

unfoldable pub blank : List ℕ → Bool
unfolding is_blank
blank [] = true
blank (b ∷ s) = is_blank b && blank s

-- "level over 64 (documents) or 128 (one literal)"
abbrev pub document_levels : ℕ
document_levels = 64

abbrev pub literal_levels : ℕ
literal_levels = 128

-- "prefix over 16 bytes or with a byte other than space and tab; level over .."
unfoldable pub settings_fault : ℕ → Settings → Bool
unfolding blank
settings_fault levels s = ltb 16 (length s.prefix) || (not (blank s.prefix) || ltb levels s.level)

-- "at the C interface, a yes-or-no number not 0 or 1"
unfoldable pub switch_fault : ℕ → Bool
switch_fault n = ltb 1 n

-- "level up", and `on_single_line` of 000
abbrev pub deeper : Settings → Settings
deeper s = settings s.breaks s.prefix (s.level + 1)

abbrev pub on_single_line : Settings → Settings
on_single_line s = settings false s.prefix s.level

unfoldable pub times : ℕ → List ℕ → List ℕ
times zero p = []
times (suc n) p = p ++ times n p

-- "the prefix once per level"
unfoldable pub indentation : Settings → List ℕ
unfolding times
indentation s = times s.level s.prefix

-- "New line: LF, then the prefix once per level. With breaks off: one space where 000 says `_or_space`, else nothing."
unfoldable pub new_line : Settings → List ℕ
unfolding indentation
new_line s = if s.breaks then line_feed ∷ indentation s else []

unfoldable pub new_line_or_space : Settings → List ℕ
unfolding indentation
new_line_or_space s = if s.breaks then line_feed ∷ indentation s else space ∷ []
