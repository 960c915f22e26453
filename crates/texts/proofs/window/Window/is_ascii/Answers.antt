-- The bits say that every byte of the text is ASCII.
use Rattle.std.proofs.Common.{rules, ltb-true}
use Rattle.texts.proofs.Plain.{seen_ascii}
use Rattle.texts.proofs.window.Window.is_ascii.Goals as goal

pub returns : goal.returns
returns c e =
    seen_ascii c.args.self.now.bytes.now c.args.self.now.length c.bits.result c.args.self.now.whole c.args.self.now.short
    (λ k h u. let p = c.bits.ensures k h u in (p.0, search rules, p.2)) (ltb-true c.bits.result 0x80 e)
