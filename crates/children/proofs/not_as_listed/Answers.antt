-- The walk starts in the kind's own state.
use Rattle.children.proofs.Family.{listed}
use Rattle.children.proofs.not_as_listed.Goals as goal

pub returns-then-not-fits : goal.returns-then-not-fits
returns-then-not-fits c =
    rw c.if-not-fits.true
    (rw c.if-not-fits.true at (listed _ _ _ _ _ c.requires c.at_first.ensures c.fits.ensures))

pub returns-then-is_extension : goal.returns-then-is_extension
returns-then-is_extension c =
    rw (← c.is_extension.ensures, c.if-is_extension.true, c.if-not-fits.false) at
    (listed _ _ _ _ _ c.requires c.at_first.ensures c.fits.ensures)

pub returns-else-is_extension : goal.returns-else-is_extension
returns-else-is_extension c =
    rw c.if-is_extension.false
    (rw (← c.is_extension.ensures, c.if-is_extension.false, c.if-not-fits.false) at
    (listed _ _ _ _ _ c.requires c.at_first.ensures c.fits.ensures))
