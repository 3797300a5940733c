use mathlib.Core.Bool.{not}
use Rattle.frame.specs.Params.{code_test}
use Rattle.frame.proofs.Within.{stop_not, go_on}
use mathlib.Core.Path.{ap, refl}
use Rattle.frame.proofs.bounds.code_test.Goals as goal

pub returns-then-not-threshold_fits : goal.returns-then-not-threshold_fits
unfolding code_test
returns-then-not-threshold_fits c = stop_not _ _ _ _ c.threshold_fits.ensures (ap not c.if-not-threshold_fits.true)

pub returns-then-not-length_fits : goal.returns-then-not-length_fits
unfolding code_test
returns-then-not-length_fits c = go_on _ _ _ _ _ c.threshold_fits.ensures (ap not c.if-not-threshold_fits.false) (stop_not _ _ _ _ c.length_fits.ensures (ap not c.if-not-length_fits.true))

pub returns : goal.returns
unfolding code_test
returns c = go_on _ _ _ _ _ c.threshold_fits.ensures (ap not c.if-not-threshold_fits.false) (go_on _ _ _ _ _ c.length_fits.ensures (ap not c.if-not-length_fits.false) refl)
