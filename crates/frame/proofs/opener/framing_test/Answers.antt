use Rattle.std.proofs.Common.{arith}
use Rattle.std.proofs.lemmas.Bool.Decides.{nat_tests}
use Rattle.area.specs.Area.{pick}
use Rattle.frame.specs.Frames.{framing_test}
use Rattle.frame.proofs.opener.framing_test.Goals as goal

pub returns-then-f-lt-BODY_AT : goal.returns-then-f-lt-BODY_AT
unfolding framing_test pick
returns-then-f-lt-BODY_AT c = grind (arith, nat_tests)

pub returns : goal.returns
unfolding framing_test pick
returns c = grind (arith, nat_tests)
