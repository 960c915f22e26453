-- A value is never longer than its text, so its length has a number.
use Rattle.std.proofs.Common.{◌≡◌, arith, rules, ◌∙◌, List, ℕ, ◌≤◌, length}
use Rattle.std.specs.Borrow.{MutBor}
use Rattle.meaning.specs.Reading.{quoted_front, characters}
use Rattle.pen.specs.declared.Pen.{Pen}
use Rattle.pen.specs.Put.{last}
use Rattle.pen.specs.Wrote.{Over, wrote_front, wrote_told}
use Rattle.read_quoted.specs.Outcomes.{Stored, value_no_longer}
use Rattle.read_quoted.specs.Walks.{Value}
use Rattle.read_quoted.proofs.store.Goals as goal

-- m is what the memory holds in the end
stored : (s : List ℕ) {out : MutBor (List ℕ)} {p q : Pen} (m : List ℕ) → Over out p → length s ≤ last
    → Value (characters quoted_front 0 s) p q → (q.out.ghost_name ≡ p.out.ghost_name → m ≡ q.out.now)
    → Stored (characters quoted_front 0 s) out.now m q.at.0
stored s m o k v a =
    record {
      value = v.value;
      says = v.says;
      told = wrote_told o v.wrote (omega (arith, k, value_no_longer s v.value v.says));
      left = λ fits. a v.wrote.same ∙ (wrote_front o v.wrote fits).1;
    }

pub returns : goal.returns
returns c =
    stored c.args.text.now _ c.over-pen.ensures (omega arith) (rw c.in_ok-write_value.was at c.write_value.ensures)
    (λ same. let whole = same ∙ c.over-pen.ensures.same in search rules)
