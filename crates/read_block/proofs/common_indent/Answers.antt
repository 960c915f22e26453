-- `read_block::common_indent`: each line counts, and nothing is left behind the last.
use Rattle.std.proofs.Common.{◌≡◌, sym, ◌∙◌, ap, refl, arith, ℕ, List, Option, Some, None, ◌+◌, ◌-◌, ◌≤◌, ◌<◌, length, drop, length-drop, drop-drop}
use Rattle.std.proofs.Math.Option.{Option as Maybe}
use Rattle.std.specs.Option.{unwrap_or}
use Rattle.meaning.specs.Block.{indent, common_indent}
use Rattle.read_block_laws.specs.FirstLine.{line_length, lines_of}
use Rattle.read_block_laws.specs.Outdented.{number_of}
use Rattle.read_block_laws.specs.LeastIndent.{with_line, merged, nothing_merged, line_is_counted, last_line_is_counted}
use Rattle.read_block.specs.Indent.{indent_seen}
use Rattle.read_block.proofs.Parts.{from, from_is}
use Rattle.read_block.proofs.common_indent.Goals as goal

number : (o : Option ℕ) → unwrap_or o 0 ≡ number_of (indent_seen o)
number None = refl
number (Some n) = refl

-- the first line of r has n blanks and m bytes behind them
module _ (s r t e : List ℕ) (o p : Maybe ℕ) (n m : ℕ) (a : merged o (common_indent (lines_of r)) ≡ common_indent (lines_of s))
    (i : n ≡ indent r) (j : t ≡ drop n r) (k : m ≡ line_length t) (l : e ≡ drop m t) (g : p ≡ with_line n (n + m) o) where
  text_there : n ≡ 0 + indent (drop 0 r)
  text_there = omega (arith, i)

  end_there : n + m ≡ n + line_length (drop n r)
  end_there = rw (← j, ← k) refl

  behind : e ≡ drop (n + m) r
  behind = l ∙ ap (drop m) j ∙ drop-drop m n r

  counted : with_line (n - 0) (n + m - 0) o ≡ p
  counted =
      let x : n - 0 ≡ n = omega arith in
      let y : n + m - 0 ≡ n + m = omega arith in
      rw (x, y) (sym g)

  last_line : length e < 1 → p ≡ common_indent (lines_of s)
  last_line h =
      let z : length r ≤ n + m = omega (arith, ap length behind, length-drop (n + m) r) in
      sym counted ∙ sym (last_line_is_counted o r 0 n (n + m) text_there end_there z) ∙ a

  one_line : 1 ≤ length e → merged p (common_indent (lines_of (from e 1))) ≡ common_indent (lines_of s)
  one_line h =
      let z : n + m < length r = omega (arith, ap length behind, length-drop (n + m) r) in
      let u : from e 1 ≡ drop (n + m + 1) r = from_is e 1 ∙ ap (drop 1) behind ∙ drop-drop 1 (n + m) r in
      rw (u, ← counted) (sym (line_is_counted o r 0 n (n + m) text_there end_there z) ∙ a)

pub loop-behind-init : goal.loop-behind-init
loop-behind-init c = nothing_merged _

pub returns-in-empty : goal.returns-in-empty
returns-in-empty c =
    let r = c.loop-behind.rest.now in
    let a = c.split_at.ensures in
    let b = c.split_at-in-loop-behind.ensures in
    c.unwrap_or.ensures
    ∙ number c.with_line-least.result
    ∙ ap number_of (last_line _ r _ _ _ _ _ _ c.loop-behind.invariant
    (a.front_len ∙ c.indent.ensures.value) (a.back ∙ ap (λ (n : ℕ). drop n r) (sym a.front_len))
    (b.front_len ∙ c.line_length.ensures.value) (b.back ∙ ap (λ (n : ℕ). drop n c.split_at.result.1.now) (sym b.front_len))
    c.with_line-least.ensures c.in-empty.len_below)

pub loop-behind-preserved : goal.loop-behind-preserved
loop-behind-preserved c =
    let r = c.loop-behind.rest.now in
    let a = c.split_at.ensures in
    let b = c.split_at-in-loop-behind.ensures in
    one_line _ r _ _ _ _ _ _ c.loop-behind.invariant
    (a.front_len ∙ c.indent.ensures.value) (a.back ∙ ap (λ (n : ℕ). drop n r) (sym a.front_len))
    (b.front_len ∙ c.line_length.ensures.value) (b.back ∙ ap (λ (n : ℕ). drop n c.split_at.result.1.now) (sym b.front_len))
    c.with_line-least.ensures c.in-len1-up.len_at_least
