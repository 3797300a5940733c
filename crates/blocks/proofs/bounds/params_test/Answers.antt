-- Each test is a demand of the definition. Assumes nothing.
use mathlib.Core.Bool.{not}
use mathlib.Core.Path.{ap, sym, ◌∙◌}
use Rattle.blocks.specs.Params.{params_test}
use Rattle.blocks.proofs.Parameters.{refuses, passes}
use Rattle.blocks.proofs.bounds.params_test.Goals as goal

pub returns-then-not-parties_fit : goal.returns-then-not-parties_fit
unfolding params_test
returns-then-not-parties_fit c = sym (refuses _ _ _ _ c.parties_fit.ensures (ap not c.if-not-parties_fit.true))

pub returns-then-not-threshold_fits : goal.returns-then-not-threshold_fits
unfolding params_test
returns-then-not-threshold_fits c =
    sym (passes _ _ _ _ c.parties_fit.ensures (ap not c.if-not-parties_fit.false)
    ∙ refuses _ _ _ _ c.threshold_fits.ensures (ap not c.if-not-threshold_fits.true))

pub returns-then-not-length_fits : goal.returns-then-not-length_fits
unfolding params_test
returns-then-not-length_fits c =
    sym (passes _ _ _ _ c.parties_fit.ensures (ap not c.if-not-parties_fit.false)
    ∙ passes _ _ _ _ c.threshold_fits.ensures (ap not c.if-not-threshold_fits.false)
    ∙ refuses _ _ _ _ c.length_fits.ensures (ap not c.if-not-length_fits.true))

pub returns : goal.returns
unfolding params_test
returns c =
    sym (passes _ _ _ _ c.parties_fit.ensures (ap not c.if-not-parties_fit.false)
    ∙ passes _ _ _ _ c.threshold_fits.ensures (ap not c.if-not-threshold_fits.false)
    ∙ passes _ _ _ _ c.length_fits.ensures (ap not c.if-not-length_fits.false))
