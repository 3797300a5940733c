-- The tests of the code are those of the definition. Assumes nothing.
use native.Mathlib.Omega.{arith}
use Rattle.std.proofs.lemmas.Bool.Decides.{nat_tests}
use Rattle.blocks.specs.Calls.{number_fits}
use Rattle.blocks.proofs.bounds.number_fits.Goals as goal

pub returns-then-j-ge1 : goal.returns-then-j-ge1
unfolding number_fits
returns-then-j-ge1 c = grind (arith, nat_tests)

pub returns-else-j-ge1 : goal.returns-else-j-ge1
unfolding number_fits
returns-else-j-ge1 c = grind (arith, nat_tests)
