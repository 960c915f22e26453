-- `read_block::is_closed`: the first three quotes that it meets decide it, and what it passes over changes nothing of that.
use Rattle.std.proofs.Common.{◌≡◌, sym, ◌∙◌, ap, true, false, eqb, arith, ℕ, List, ◌≤◌, ◌<◌, length}
use Rattle.std.proofs.lemmas.Bool.Decides.{nat_tests}
use Rattle.read_block_laws.specs.Unescaped.{escapes}
use Rattle.read_block_laws.specs.Closing.{closed, quotes_close, escape_is_passed, byte_is_passed, nothing_closes}
use Rattle.read_block_laws.specs.Plain.{Plain, closing_goes_on}
use Rattle.meaning.specs.Block.{three_quotes}
use Rattle.read_block.proofs.Parts.{from, from_is}
use Rattle.read_block.proofs.is_closed.Goals as goal

eqb_flips : (n : ℕ) → eqb n 3 ≡ eqb 3 n
eqb_flips n = grind (arith, nat_tests)

module _ (s r : List ℕ) (k : ℕ) (p : Plain r 0 k) (a : closed r ≡ closed s) where
  same : closed (from r k) ≡ closed s
  same = ap closed (from_is r k) ∙ closing_goes_on r 0 k p ∙ a

  nothing_left : length (from r k) < 1 → false ≡ closed s
  nothing_left h = sym (nothing_closes (from r k) 0 (omega (arith, h))) ∙ same

  three_quotes_left : three_quotes (from r k) ≡ true → eqb (length (from r k)) 3 ≡ closed s
  three_quotes_left e = eqb_flips (length (from r k)) ∙ sym (quotes_close (from r k) 0 e) ∙ same

  module _ (h : 1 ≤ length (from r k)) where
    past_escape : escapes (from r k) ≡ true → closed (from (from r k) 4) ≡ closed s
    past_escape e = ap closed (from_is (from r k) 4) ∙ sym (escape_is_passed (from r k) 0 (omega (arith, h)) e) ∙ same

    past_byte : three_quotes (from r k) ≡ false → escapes (from r k) ≡ false → closed (from (from r k) 1) ≡ closed s
    past_byte e f = ap closed (from_is (from r k) 1) ∙ sym (byte_is_passed (from r k) 0 (omega (arith, h)) e f) ∙ same

pub returns-in-empty : goal.returns-in-empty
returns-in-empty c = nothing_left _ _ _ c.marks_behind.ensures c.loop-rest.invariant c.in-empty.len_below

pub returns-in_default : goal.returns-in_default
returns-in_default c =
    three_quotes_left _ _ _ c.marks_behind.ensures c.loop-rest.invariant (sym c.three_quotes.ensures ∙ c.if-three_quotes.true)

pub loop-rest-preserved-then-is_escape : goal.loop-rest-preserved-then-is_escape
loop-rest-preserved-then-is_escape c =
    past_escape _ _ _ c.marks_behind.ensures c.loop-rest.invariant c.in_default.len_at_least (sym c.is_escape.ensures.value ∙ c.if-is_escape.true)

pub loop-rest-preserved : goal.loop-rest-preserved
loop-rest-preserved c =
    past_byte _ _ _ c.marks_behind.ensures c.loop-rest.invariant c.in_default.len_at_least
    (sym c.three_quotes.ensures ∙ c.if-three_quotes.false)
    (sym c.is_escape.ensures.value ∙ c.if-is_escape.false)
