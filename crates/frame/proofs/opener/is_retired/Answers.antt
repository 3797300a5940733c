use Rattle.std.proofs.Common.{arith}
use Rattle.std.proofs.lemmas.Bool.Decides.{nat_tests}
use Rattle.frame.specs.Frames.{retired}
use Rattle.frame.proofs.opener.is_retired.Goals as goal

pub returns : goal.returns
unfolding retired
returns c = grind (arith, nat_tests)
