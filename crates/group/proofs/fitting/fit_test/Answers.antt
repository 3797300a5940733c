-- Assumes nothing.
use mathlib.Core.Bool.{not}
use mathlib.Core.Path.{ap}
use Rattle.group.proofs.DigestLaws.{fit_bad, fit_fine}
use Rattle.group.proofs.fitting.fit_test.Goals as goal

pub returns-then-not-block_fits : goal.returns-then-not-block_fits
returns-then-not-block_fits c = fit_bad _ _ _ _ c.block_fits.ensures (ap not c.if-not-block_fits.true)

pub returns : goal.returns
returns c = fit_fine _ _ _ _ c.block_fits.ensures (ap not c.if-not-block_fits.false)
