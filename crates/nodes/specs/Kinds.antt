-- What the tables of kinds say.
use Rattle.std.specs.Prelude.{◌≡◌, List, ℕ, ◌<◌, get_or, if◌then◌else◌}
use Rattle.meaning.specs.Kind
use Rattle.meaning.specs.Children.{row_of}
use Rattle.meaning.specs.Refusals.{takes_no_text}

-- how many variants each kind has
pub record VariantsOf (t : List ℕ) : Type 0 where
  pub each : (k : ℕ) → k < Kind.count → get_or t k 0 ≡ (row_of k).variants

-- 1 for a kind that takes no text
abbrev pub textless : ℕ → ℕ
textless k = if takes_no_text (row_of k).text then 1 else 0

pub record Textless (t : List ℕ) : Type 0 where
  pub each : (k : ℕ) → k < Kind.count → get_or t k 0 ≡ textless k
