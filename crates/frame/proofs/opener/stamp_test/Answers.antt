use Rattle.std.proofs.Common.{arith}
use Rattle.std.proofs.lemmas.Bool.Decides.{nat_tests}
use Rattle.area.specs.Area.{pick}
use Rattle.frame.specs.Frames.{stamp_test}
use Rattle.frame.proofs.opener.stamp_test.Goals as goal

pub returns-then-not-parts_agree : goal.returns-then-not-parts_agree
unfolding stamp_test pick
returns-then-not-parts_agree c = grind (arith, nat_tests)

pub returns : goal.returns
unfolding stamp_test pick
returns c = grind (arith, nat_tests)
