-- The tests of the code are those of the definition. Assumes nothing.
use native.Mathlib.Omega.{arith}
use Rattle.std.proofs.lemmas.Bool.Decides.{nat_tests}
use Rattle.blocks.specs.Params.{length_fits}
use Rattle.blocks.proofs.bounds.length_fits.Goals as goal

pub returns-then-size-ge1 : goal.returns-then-size-ge1
unfolding length_fits
returns-then-size-ge1 c = grind (arith, nat_tests)

pub returns-else-size-ge1 : goal.returns-else-size-ge1
unfolding length_fits
returns-else-size-ge1 c = grind (arith, nat_tests)
