-- Each rule asks for what its arm has seen.
use Rattle.std.proofs.Common.{◌≡◌, ◌⊎◌, inl, inr, true, List, ℕ, ◌≤◌, get_or, take, eqb-true, leb-true, arith}
use Rattle.std.proofs.Math.Bool.{or-true}
use Rattle.texts.proofs.Plain.{no_text_fits, fragment_name_fits, enum_name_fits}
use Rattle.meaning.specs.Text.{is_name, text_fits}
use Rattle.texts.specs.Rule.{meant, highest}
use Rattle.texts.specs.declared.rule.Rule.{Rule}
use Rattle.texts.specs.declared.rule.Rule.TheVariants.{Name, NameOrEmpty, FragmentName, EnumName}
use Rattle.texts.proofs.window.Window.shows_fit.Goals as goal

pub returns-in-NoText : goal.returns-in-NoText
returns-in-NoText c e = rw c.in-NoText.is (no_text_fits _ _ (eqb-true _ 0 e))

pub returns-in-AnyText : goal.returns-in-AnyText
unfolding text_fits
returns-in-AnyText c e = rw c.in-AnyText.is (c.is_ascii.ensures e)

-- a name whose first byte is no later than the rule's last fits each rule of names
name_fits : (bytes : List ℕ) (n : ℕ) (r : Rule) → (r ≡ Name) ⊎ ((r ≡ NameOrEmpty) ⊎ ((r ≡ FragmentName) ⊎ (r ≡ EnumName)))
    → 1 ≤ n → is_name (take n bytes) ≡ true → get_or bytes 0 0 ≤ highest (meant r) → text_fits (meant r) (take n bytes) ≡ true
unfolding text_fits
name_fits bytes n r (inl is) l e h = rw (is, e)
name_fits bytes n r (inr (inl is)) l e h = rw (is, e) (or-true _)
name_fits bytes n r (inr (inr (inl is))) l e h = let b = rw is at h in rw is (fragment_name_fits bytes n l (omega (arith, b)) e)
name_fits bytes n r (inr (inr (inr is))) l e h = let b = rw is at h in rw is (enum_name_fits bytes n l (omega (arith, b)) e)

pub returns-then-is_name : goal.returns-then-is_name
returns-then-is_name c e =
    let name = c.is_name.ensures in
    name_fits c.args.self.now.bytes.now c.args.self.now.length c.args.rule c.in-Name.is (name.first c.if-is_name.true) (name.name c.if-is_name.true)
    (omega (arith, leb-true _ _ e, c.highest.ensures))
