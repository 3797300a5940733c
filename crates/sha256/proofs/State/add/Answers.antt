-- Word by word. Assumes nothing.
use Rattle.sha256.specs.Hash.{added}
use Rattle.sha256.proofs.State.add.Goals as goal

pub returns : goal.returns
unfolding added
returns c = cc
