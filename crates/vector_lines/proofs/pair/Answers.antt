-- Both bytes of the pair are digits.
use Rattle.std.proofs.Common.{◌≡◌, ◌*◌, ◌+◌, get_or, arith, rules}
use Rattle.vector_lines.specs.Hex.{digit_of}
use Rattle.vector_lines.proofs.Hex.{digit_there, pair_within, pair_high, pair_low, pair_byte}
use Rattle.vector_lines.proofs.pair.Goals as goal

pub overflow_mul-number : goal.overflow_mul-number
overflow_mul-number c = let h = pair_within _ _ c.requires.1 in omega (arith, h)

pub bounds-s-number : goal.bounds-s-number
bounds-s-number c = let h = pair_within _ _ c.requires.1 in omega (arith, h)

pub unwrap-high-requires : goal.unwrap-high-requires
unwrap-high-requires c = rw (digit_there _ (pair_high _ _ c.requires.1 c.requires.0) c.digit.ensures) (search rules)

pub overflow_mul-number-2 : goal.overflow_mul-number-2
overflow_mul-number-2 c = let h = pair_within _ _ c.requires.1 in omega (arith, h)

pub overflow_add-number : goal.overflow_add-number
overflow_add-number c = let h = pair_within _ _ c.requires.1 in omega (arith, h)

pub bounds-s-number-2 : goal.bounds-s-number-2
bounds-s-number-2 c = pair_within _ _ c.requires.1

pub unwrap-low-requires : goal.unwrap-low-requires
unwrap-low-requires c = rw (digit_there _ (pair_low _ _ c.requires.1 c.requires.0) c.digit-2.ensures) (search rules)

pub returns : goal.returns
returns c =
    let s = c.args.s.now in
    let n = c.args.number in
    let high = digit_there _ (pair_high _ _ c.requires.1 c.requires.0) c.digit.ensures in
    let low = digit_there _ (pair_low _ _ c.requires.1 c.requires.0) c.digit-2.ensures in
    let x : c.unwrap-high.result ≡ digit_of (get_or s (2 * n) 0) = cc in
    let y : c.unwrap-low.result ≡ digit_of (get_or s (2 * n + 1) 0) = cc in
    omega (arith, pair_byte s n c.requires.1)
