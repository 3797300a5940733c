use Rattle.std.proofs.Common.{arith}
use Rattle.std.proofs.lemmas.Bool.Decides.{nat_tests}
use Rattle.area.specs.Area.{pick}
use Rattle.frame.specs.Params.{own_test}
use Rattle.frame.proofs.bounds.own_test.Goals as goal

pub returns-then-me-lt1 : goal.returns-then-me-lt1
unfolding own_test pick
returns-then-me-lt1 c = grind (arith, nat_tests)

pub returns : goal.returns
unfolding own_test pick
returns c = grind (arith, nat_tests)
