-- Every literal keeps within the bound of its form: the bounds of the two forms, and an indentation is level times prefix length.
use Rattle.std.specs.Prelude.{◌≡◌, Bool, true, false, List, ℕ, zero, suc, ◌*◌, ◌≤◌, length, if◌then◌else◌}
use Rattle.std.proofs.Common.{suc-mul, arith, length-append}
use Rattle.meaning.specs.Settings.{Settings, times, indentation}
use Rattle.meaning.specs.Quoted.{quoted}
use Rattle.meaning.specs.Block.{block_string}
use Rattle.meaning.specs.Literal.{takes_block, literal}
use Rattle.meaning.specs.Demand.{line_feeds, quoted_bound, block_bound, Bounded}
use Rattle.literal_laws.specs.QuotedBound.{quoted_bound_lem}
use Rattle.literal_laws.specs.BlockBound.{block_bound_lem}

pub length_of_times : (n : ℕ) (p : List ℕ) → length (times n p) ≡ n * length p
unfolding times
length_of_times zero p = omega arith
length_of_times (suc n) p = omega (arith, length-append p (times n p), length_of_times n p, suc-mul n (length p))

pub length_of_indentation : (s : Settings) → length (indentation s) ≡ s.level * length s.prefix
unfolding indentation
length_of_indentation s = length_of_times s.level s.prefix

-- the block form under the settings' indentation
block_bounded : (s : Settings) (v : List ℕ)
    → length (block_string (indentation s) v) ≤ block_bound (length v) (line_feeds v) (s.level * length s.prefix)
block_bounded s v = rw (length_of_indentation s) at (block_bound_lem (indentation s) v)

pub bounded : (s : Settings) (d : Bool) (v : List ℕ) → Bounded s d v
unfolding literal
bounded s d v = go (takes_block s d v)
  where
    go : (x : Bool) →
        length (if x then block_string (indentation s) v else quoted v)
        ≤ (if x then block_bound (length v) (line_feeds v) (s.level * length s.prefix) else quoted_bound (length v))
    go true = block_bounded s v
    go false = quoted_bound_lem v
