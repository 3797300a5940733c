-- By the definition. Assumes nothing.
use Rattle.std.proofs.Common.{rules}
use Rattle.sha256.specs.Constants.{initial_hash}
use Rattle.sha256.proofs.State.initial.Goals as goal

pub returns : goal.returns
unfolding initial_hash
returns c = search rules
