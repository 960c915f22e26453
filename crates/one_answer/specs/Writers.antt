-- The same of the writers that the entries are made of: the output and where the pen and the walk stand.
use Rattle.std.specs.Prelude.{ℕ, ◌≡◌, List}
use Rattle.std.specs.Borrow.{MutBor}
use Rattle.std.proofs.Common.{ap, ◌∙◌}
use Rattle.meaning.specs.Settings.{Settings as SettingsSaid}
use Rattle.meaning.specs.Rules.{Part}
use Rattle.meaning.specs.Layout.{Child}
use Rattle.meaning.specs.declared.Offset.{Offset}
use Rattle.pen.specs.declared.Pen.{Pen}
use Rattle.pen.specs.Wrote.{Over, Wrote}
use Rattle.settings.specs.declared.Settings.{Settings}
use Rattle.settings.specs.Said.{said}
use Rattle.layout.specs.declared.Children.{Children}
use Rattle.layout.specs.Written.{ChildrenOf, Past}
use Rattle.layout.specs.Did.{Walked, Did}
use Rattle.layout.specs.Kids.{kids}
use Rattle.one_answer.specs.Entries.{one_value}

-- two pens over the same memory, which holds the same and is written on at the same place
pub record SamePen (p q : Pen) : Type 0 where
  pub out : p.out.now ≡ q.out.now
  pub place : p.at ≡ q.at
  pub memory : p.out.ghost_name ≡ q.out.ghost_name

abbrev offset : ℕ → Offset
offset i = record { 0 = i }

pub one_start : {out : MutBor (List ℕ)} {p q : Pen} → Over out p → Over out q → SamePen p q
one_start x y = record { out = one_value x.memory y.memory; place = ap offset (one_value x.place y.place); memory = one_value x.same y.same }

pub one_wrote : {p : Pen} {t : List ℕ} {q r : Pen} → Wrote p t q → Wrote p t r → SamePen q r
one_wrote x y =
    let e = one_value x.ink y.ink in
    record { out = ap (λ (m : List ℕ × ℕ). m.0) e; place = ap (λ (m : List ℕ × ℕ). offset m.1) e; memory = one_value x.same y.same }

abbrev walk_at : ℕ → ℕ → Children
walk_at i e = record { next = record { 0 = i }; end = record { 0 = e } }

same_walk : {q r : Children} → q.next.0 ≡ r.next.0 → q.end.0 ≡ r.end.0 → q ≡ r
same_walk {q} {r} e f = ap (λ (i : ℕ). walk_at i q.end.0) e ∙ ap (λ (i : ℕ). walk_at r.next.0 i) f

pub one_past : {w : List ℕ} {at q r : Children} → Past w at q → Past w at r → q ≡ r
one_past x y = same_walk (one_value x.next y.next) (one_value x.end y.end)

pub one_children : {w : List ℕ} {i : ℕ} {q r : Children} → ChildrenOf w i q → ChildrenOf w i r → q ≡ r
one_children x y = same_walk (one_value x.next y.next) (one_value x.end y.end)

-- of a walk over children the statement fixes those that are left and not the number of the node that they begin at: past the last child
-- any number leaves none
pub one_walked : {w p : List ℕ} {t : List ℕ} {rs : List Child} {at : Children} {o : Pen} {b : Children} {q : Pen} {c : Children} {r : Pen}
    → Walked w p t rs at o b q → Walked w p t rs at o c r
    → SamePen q r × (b.end.0 ≡ c.end.0) × (kids w p b.next.0 b.end.0 ≡ kids w p c.next.0 c.end.0)
one_walked x y = (one_wrote x.wrote y.wrote, one_value x.end y.end, one_value x.left y.left)

pub one_did : {w p : List ℕ} {s : SettingsSaid} {n : ℕ} {ps : List Part} {at : Children} {o : Pen} {b : Children} {q : Pen} {c : Children} {r : Pen}
    → Did w p s n ps at o b q → Did w p s n ps at o c r
    → SamePen q r × (b.end.0 ≡ c.end.0) × (kids w p b.next.0 b.end.0 ≡ kids w p c.next.0 c.end.0)
one_did x y = one_walked x.walked y.walked

-- `deeper`, `on_single_line`, `single_line_unless`: what the settings say
pub one_state : (r s : Settings) {f : SettingsSaid} → said r ≡ f → said s ≡ f → said r ≡ said s
one_state r s e g = one_value e g
