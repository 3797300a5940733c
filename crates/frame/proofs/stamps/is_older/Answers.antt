use Rattle.std.proofs.Common.{arith}
use Rattle.std.proofs.lemmas.Bool.Decides.{nat_tests}
use Rattle.frame.specs.Stamps.{older}
use Rattle.frame.proofs.stamps.is_older.Goals as goal

pub returns : goal.returns
unfolding older
returns c = rw c.lt.ensures (grind (arith, nat_tests))
