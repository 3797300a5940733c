use Rattle.std.proofs.Common.{arith}
use Rattle.std.proofs.lemmas.Bool.Decides.{nat_tests}
use Rattle.area.specs.Area.{pick}
use Rattle.frame.specs.Frames.{header_test}
use Rattle.frame.proofs.opener.header_test.Goals as goal

pub returns-then-version-ne-VERSION : goal.returns-then-version-ne-VERSION
unfolding header_test pick
returns-then-version-ne-VERSION c = grind (arith, nat_tests)

pub returns-then-h-lt1 : goal.returns-then-h-lt1
unfolding header_test pick
returns-then-h-lt1 c = grind (arith, nat_tests)

pub returns-then-h-lt1-2 : goal.returns-then-h-lt1-2
unfolding header_test pick
returns-then-h-lt1-2 c = grind (arith, nat_tests)

pub returns : goal.returns
unfolding header_test pick
returns c = grind (arith, nat_tests)
