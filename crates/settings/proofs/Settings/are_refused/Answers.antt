-- `Settings::are_refused` meets its contract: each test of the rule, in order.
use Rattle.std.proofs.Common.{◌∙◌}
use Rattle.settings.specs.Blanks.{blank_all}
use Rattle.settings.specs.Faults.{prefix_too_long, prefix_fits}
use Rattle.settings.proofs.Settings.are_refused.Goals as goal

pub returns-then-self-gt-LONGEST_PREFIX : goal.returns-then-self-gt-LONGEST_PREFIX
returns-then-self-gt-LONGEST_PREFIX c = prefix_too_long _ _ _ _ c.if-self-gt-LONGEST_PREFIX.true

pub returns : goal.returns
returns c = prefix_fits _ _ _ _ c.if-self-gt-LONGEST_PREFIX.false (c.is_blank.ensures ∙ blank_all _)
