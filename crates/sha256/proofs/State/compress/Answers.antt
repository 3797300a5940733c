-- By the definition. Assumes nothing.
use Rattle.sha256.specs.Hash.{compressed}
use Rattle.sha256.proofs.State.compress.Goals as goal

pub returns : goal.returns
unfolding compressed
returns c = cc
