-- The quoted form of a UTF-8 value is UTF-8: an ASCII byte, which stands between sequences, is written in ASCII, and every other byte
-- stands for itself.
use Rattle.std.specs.Prelude.{◌≡◌, true, ℕ, ◌≤◌, ◌<◌}
use Rattle.std.proofs.Math.Path.{refl, ap}
use Rattle.std.proofs.Common.{◌∙◌, arith, ne_eqb, le-ltb}
use mathlib.Core.List.{List, [], ◌∷◌, ◌++◌, append_assoc}
use Rattle.std.proofs.Math.Decide.{dec_lt}
use Rattle.base.specs.Finite.{below}
use Rattle.meaning.specs.Ascii.{tab, line_feed, carriage_return, quote, backslash}
use Rattle.meaning.specs.Utf8.{utf8_after, utf8}
use Rattle.meaning.specs.Quoted.{class, written_as, escaped, body, quoted}
use Rattle.utf8_laws.specs.Append.{Left, left_by, append_after, ascii_first, all_ascii, ascii_in_place}

pub ascii_is_escaped_in_ascii : (b : ℕ) → b < 0x80 → all_ascii (escaped b) ≡ true
ascii_is_escaped_in_ascii = below (λ b. all_ascii (escaped b)) 0x80 (unfold all_ascii escaped in refl)

class_past_ascii : (b : ℕ) → 0x80 ≤ b → class b ≡ 0
unfolding class
class_past_ascii b h =
    simp (
      ne_eqb b quote (omega arith),
      ne_eqb b backslash (omega arith),
      ne_eqb b 0x08 (omega arith),
      ne_eqb b line_feed (omega arith),
      ne_eqb b 0x0C (omega arith),
      ne_eqb b carriage_return (omega arith),
      ne_eqb b tab (omega arith),
      le-ltb b 0x20 (omega arith),
    )

pub other_bytes_stand : (b : ℕ) → 0x80 ≤ b → escaped b ≡ b ∷ []
unfolding escaped
other_bytes_stand b h = ap (λ (c : ℕ). written_as c b) (class_past_ascii b h)

body_after : (k low n : ℕ) (v t : List ℕ) → utf8_after k low n v ≡ true → utf8_after k low n (body v ++ t) ≡ utf8 t
body_after k low n [] t h = unfold body in append_after k low n [] t h
body_after k low n (b ∷ v) t h =
    ap (λ (x : List ℕ). utf8_after k low n x) (cons_body ∙ append_assoc (escaped b) (body v) t)
    ∙ go (dec_lt b 0x80) (left_by k low n b v h) (λ m l w g. body_after m l w v t g)
  where
    cons_body : body (b ∷ v) ++ t ≡ escaped b ++ body v ++ t
    cons_body = unfold body in refl

    go : Dec (b < 0x80) → Left k low n b v
        → ((m l w : ℕ) → utf8_after m l w v ≡ true → utf8_after m l w (body v ++ t) ≡ utf8 t)
        → utf8_after k low n (escaped b ++ (body v ++ t)) ≡ utf8 t
    go (yes a) l ih =
        ascii_in_place k low n b v (escaped b) (body v ++ t) (utf8 t) a h (ascii_is_escaped_in_ascii b a) (unfold utf8 in ih 0 0 0)
    go (no a) l ih =
        ap (λ (x : List ℕ). utf8_after k low n (x ++ (body v ++ t))) (other_bytes_stand b (omega arith))
        ∙ l.same (body v ++ t) ∙ ih l.more l.lowest l.value l.good

pub quoted_is_utf8 : (v : List ℕ) → utf8 v ≡ true → utf8 (quoted v) ≡ true
quoted_is_utf8 v h =
    ap utf8 as_written ∙ ascii_first quote (body v ++ (quote ∷ [])) (omega arith) ∙ (unfold utf8 in body_after 0 0 0 v (quote ∷ []) h)
  where
    as_written : quoted v ≡ quote ∷ (body v ++ (quote ∷ []))
    as_written = unfold quoted in refl
