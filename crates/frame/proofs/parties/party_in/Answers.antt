use Rattle.std.proofs.Common.{arith}
use Rattle.std.proofs.lemmas.Bool.Decides.{nat_tests}
use Rattle.area.specs.Area.{pick}
use Rattle.frame.specs.Outbox.{party_in}
use Rattle.frame.proofs.parties.party_in.Goals as goal

pub returns-in-0 : goal.returns-in-0
unfolding party_in pick
returns-in-0 c = grind (arith, nat_tests)

pub returns-in_default : goal.returns-in_default
unfolding party_in pick
returns-in_default c = grind (arith, nat_tests)
