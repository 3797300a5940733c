-- By the definition. Assumes nothing.
use Rattle.sha256.specs.Hash.{round}
use Rattle.sha256.proofs.State.round.Goals as goal

pub returns : goal.returns
unfolding round
returns c = cc
