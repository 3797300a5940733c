-- By the definition. Assumes nothing.
use Rattle.std.proofs.Common.{refl}
use Rattle.sha256.specs.Words.{maj}
use Rattle.sha256.proofs.majority.Goals as goal

pub returns : goal.returns
unfolding maj
returns c = refl
