-- By the definition. Assumes nothing.
use Rattle.std.proofs.Common.{refl}
use Rattle.sha256.specs.Words.{ch}
use Rattle.sha256.proofs.choose.Goals as goal

pub returns : goal.returns
unfolding ch
returns c = refl
