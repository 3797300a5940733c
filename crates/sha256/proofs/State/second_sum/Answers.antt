-- By the definition. Assumes nothing.
use Rattle.sha256.specs.Hash.{t2}
use Rattle.sha256.proofs.State.second_sum.Goals as goal

pub returns : goal.returns
unfolding t2
returns c = cc
