-- What a part writes of its own is far below 2^28 bytes: new lines by the bound on levels and prefix, literals by their own bounds.
use Rattle.std.specs.Prelude.{Bool, List, [], ◌∷◌, ℕ, ◌+◌, ◌*◌, ◌^◌, ◌≤◌, if◌then◌else◌}
use Rattle.std.proofs.Math.Bool.{true, false}
use Rattle.std.proofs.Math.Nat.{mul-le-mul}
use native.Mathlib.Omega.{arith}
use Rattle.std.proofs.Math.ListN.{length}
use Rattle.meaning.specs.Ascii.{line_feed, space}
use Rattle.meaning.specs.Settings.{Settings, indentation, new_line, new_line_or_space}
use Rattle.meaning.specs.Literal.{takes_block, literal}
use Rattle.meaning.specs.Demand.{line_feeds, quoted_bound, block_bound}
use Rattle.literal_laws.specs.BlockBound.{few_feeds}
use Rattle.literal_laws.specs.Bounded.{length_of_indentation, bounded}

-- more than a part writes of its own, and more than it writes around a child
abbrev pub ample : ℕ
ample = 2 ^ 28

-- a prefix of at most 16 bytes, and a level of at most l
pub record Within (l : ℕ) (s : Settings) : Type 0 where
  pub prefix : length s.prefix ≤ 16
  pub level : s.level ≤ l

module _ {l : ℕ} (low : l ≤ 129) {s : Settings} (w : Within l s) where
  indent_is_short : s.level * length s.prefix ≤ 2064
  indent_is_short = let k : s.level ≤ 129 = omega (arith, w.level) in omega (arith, mul-le-mul k w.prefix)

  pub new_line_is_short : length (new_line s) ≤ 2065
  unfolding new_line
  new_line_is_short = go s.breaks
    where
      go : (b : Bool) → length (if b then line_feed ∷ indentation s else []) ≤ 2065
      go true = omega (arith, length_of_indentation s, indent_is_short)
      go false = omega arith

  pub line_or_space_is_short : length (new_line_or_space s) ≤ 2065
  unfolding new_line_or_space
  line_or_space_is_short = go s.breaks
    where
      go : (b : Bool) → length (if b then line_feed ∷ indentation s else space ∷ []) ≤ 2065
      go true = omega (arith, length_of_indentation s, indent_is_short)
      go false = omega arith

  pub literal_is_short : (d : Bool) (v : List ℕ) → length v ≤ 65536 → length (literal s d v) ≤ ample
  unfolding quoted_bound block_bound
  literal_is_short d v h = go (takes_block s d v) (bounded s d v)
    where
      go : (b : Bool)
          → length (literal s d v) ≤ (if b then block_bound (length v) (line_feeds v) (s.level * length s.prefix) else quoted_bound (length v))
          → length (literal s d v) ≤ ample
      go true k =
          let f : line_feeds v + 2 ≤ 65538 = omega (arith, few_feeds v) in
          omega (arith, mul-le-mul f indent_is_short)
      go false k = omega arith
