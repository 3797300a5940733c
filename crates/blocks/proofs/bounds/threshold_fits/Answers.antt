-- The tests of the code are those of the definition. Assumes nothing.
use native.Mathlib.Omega.{arith}
use Rattle.std.proofs.lemmas.Bool.Decides.{nat_tests}
use Rattle.blocks.specs.Params.{threshold_fits}
use Rattle.blocks.proofs.bounds.threshold_fits.Goals as goal

pub returns-then-k-n : goal.returns-then-k-n
unfolding threshold_fits
returns-then-k-n c = grind (arith, nat_tests)

pub returns-else-k-n : goal.returns-else-k-n
unfolding threshold_fits
returns-else-k-n c = grind (arith, nat_tests)
