-- The tests of the code are those of the definition. Assumes nothing.
use native.Mathlib.Omega.{arith}
use Rattle.std.proofs.lemmas.Bool.Decides.{nat_tests}
use Rattle.blocks.specs.Params.{parties_fit}
use Rattle.blocks.proofs.bounds.parties_fit.Goals as goal

pub returns-then-t-ge1 : goal.returns-then-t-ge1
unfolding parties_fit
returns-then-t-ge1 c = grind (arith, nat_tests)

pub returns-else-t-ge1 : goal.returns-else-t-ge1
unfolding parties_fit
returns-else-t-ge1 c = grind (arith, nat_tests)
