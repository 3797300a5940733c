use Rattle.std.proofs.Common.{arith}
use Rattle.std.proofs.lemmas.Bool.Decides.{nat_tests}
use Rattle.area.specs.Area.{pick}
use Rattle.frame.specs.Params.{quota}
use Rattle.frame.proofs.bounds.quota.Goals as goal

pub returns : goal.returns
unfolding quota pick
returns c = grind (arith, nat_tests)
