-- By the definition. Assumes nothing.
use Rattle.sha256.specs.Hash.{t1}
use Rattle.sha256.proofs.State.first_sum.Goals as goal

pub returns : goal.returns
unfolding t1
returns c = cc
