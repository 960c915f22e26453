-- What the small writers write, and where they leave a walk.
use Rattle.std.specs.Prelude.{◌≡◌, refl, Bool, true, false, List, [], ◌++◌, ℕ, ◌+◌, if◌then◌else◌}
use Rattle.meaning.specs.Ascii.{ascii}
use Rattle.meaning.specs.Settings.{Settings, new_line_or_space}
use Rattle.meaning.specs.Table.{end_at}
use Rattle.layout.specs.declared.Children.{Children}
use Rattle.layout.specs.declared.Gap.{Gap}
use Rattle.layout.specs.declared.Gap.TheVariants.{Space, Ampersand, Bar, Line, Comma}

-- what stands before each child of a walk
abbrev pub gap_text : Gap → Settings → List ℕ
gap_text Space s = ascii " "
gap_text Ampersand s = ascii " & "
gap_text Bar s = ascii " | "
gap_text Line s = new_line_or_space s
gap_text Comma s = ascii "," ++ new_line_or_space s

-- "a comma after the last only with breaks on"
abbrev pub last_comma : Bool → List ℕ
last_comma b = if b then ascii "," else []

-- a walk over all children of node i
pub record ChildrenOf (w : List ℕ) (i : ℕ) (at : Children) : Type 0 where
  pub next : at.next.0 ≡ i + 1
  pub end : at.end.0 ≡ end_at w i

-- the walk stands past its child
pub record Past (w : List ℕ) (at r : Children) : Type 0 where
  pub next : r.next.0 ≡ end_at w at.next.0
  pub end : r.end.0 ≡ at.end.0

pub comma_off : (b : Bool) → b ≡ false → [] ≡ last_comma b
comma_off b z = rw z refl

pub comma_on : (b : Bool) → b ≡ true → ascii "," ≡ last_comma b
comma_on b z = rw z refl
