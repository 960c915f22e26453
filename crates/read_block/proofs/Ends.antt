-- Where a text ends, by what is known of each byte.
use Rattle.std.proofs.Common.{◌≡◌, refl, false, arith, List, ℕ, zero, suc, ◌+◌, ◌-◌, ◌<◌, length, drop, slice_index}
use Rattle.read_block_laws.specs.FirstLine.{line_length}
use Rattle.read_block_laws.specs.TrimmedEnd.{is_white, WhiteFrom, EndsAt, white_from_end, white_from_before, text_line_ends, nothing_ends}
use Rattle.read_block.specs.White.{WhitePast}

white_from : (s : List ℕ) (j n : ℕ) → j + n ≡ length s → WhitePast s j → WhiteFrom s j
white_from s j zero e f = white_from_end s j (omega (arith, e))
white_from s j (suc n) e f =
    let z : j + 1 - 1 ≡ j = omega arith in
    rw z at (white_from_before s (j + 1) (white_from s (j + 1) n (omega (arith, e)) (λ k a b. f k (omega arith) b)) (omega arith)
    (rw z (f j (omega arith) (omega (arith, e)))))

pub no_text_ends : (s : List ℕ) → WhitePast s 0 → EndsAt s 0
no_text_ends s f = nothing_ends s 0 (white_from s 0 (length s) (omega arith) f) (omega arith)

pub text_ends : (s : List ℕ) (last : ℕ) → last < length s → is_white (slice_index s last) ≡ false → WhitePast s (last + 1)
    → EndsAt s (last + 1 + line_length (drop (last + 1) s))
text_ends s last h e f =
    let z : last + 1 - 1 ≡ last = omega arith in
    text_line_ends s (last + 1) (white_from s (last + 1) (length s - (last + 1)) (omega arith) f) (omega arith) (rw z e) _ refl
