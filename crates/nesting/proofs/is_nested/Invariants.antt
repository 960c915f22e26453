use Rattle.std.specs.Prelude.{length}
use Rattle.nesting.proofs.Caps.{Capped}
use Rattle.nesting.proofs.is_nested.Given as goal

-- The nodes passed are within their caps, so that none of them crosses the end of another.
abbrev pub invariant-loop-i : goal.invariant-loop-i
invariant-loop-i l = Capped l.table.words.now l.n (length l.initial.caps) l.caps l.cap l.i
