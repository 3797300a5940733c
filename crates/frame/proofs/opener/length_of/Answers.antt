use Rattle.std.proofs.Common.{arith}
use Rattle.std.proofs.lemmas.Bool.Decides.{nat_tests}
use Rattle.area.specs.Area.{pick}
use Rattle.frame.specs.Frames.{length_of}
use Rattle.frame.proofs.opener.length_of.Goals as goal

pub returns-in-2 : goal.returns-in-2
unfolding length_of pick
returns-in-2 c = grind (arith, nat_tests)

pub returns-in-11 : goal.returns-in-11
unfolding length_of pick
returns-in-11 c = grind (arith, nat_tests)

pub returns-in-12 : goal.returns-in-12
unfolding length_of pick
returns-in-12 c = grind (arith, nat_tests)

pub returns-in-0-to-1 : goal.returns-in-0-to-1
unfolding length_of pick
returns-in-0-to-1 c = grind (arith, nat_tests)

pub returns-in-3-to-5 : goal.returns-in-3-to-5
unfolding length_of pick
returns-in-3-to-5 c = grind (arith, nat_tests)

pub returns-in-6-to-10 : goal.returns-in-6-to-10
unfolding length_of pick
returns-in-6-to-10 c = grind (arith, nat_tests)

pub returns-in_default : goal.returns-in_default
unfolding length_of pick
returns-in_default c = grind (arith, nat_tests)
