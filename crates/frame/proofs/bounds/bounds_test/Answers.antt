use mathlib.Core.Bool.{not}
use mathlib.Core.Path.{ap}
use Rattle.frame.specs.Params.{bounds_test}
use Rattle.frame.proofs.Within.{stop_not, go_on}
use Rattle.frame.proofs.bounds.bounds_test.Goals as goal

pub returns-then-not-parties_fit : goal.returns-then-not-parties_fit
unfolding bounds_test
returns-then-not-parties_fit c = stop_not _ _ _ _ c.parties_fit.ensures (ap not c.if-not-parties_fit.true)

pub returns : goal.returns
unfolding bounds_test
returns c = go_on _ _ _ _ _ c.parties_fit.ensures (ap not c.if-not-parties_fit.false) c.code_test.ensures
