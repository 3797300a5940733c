-- Four rounds one after the other. Assumes nothing.
use Rattle.std.proofs.Common.{refl}
use Rattle.sha256.specs.Constants.{constants}
use Rattle.sha256.proofs.Turns.{one_by_one}
use Rattle.sha256.proofs.State.four_rounds.Goals as goal

pub returns : goal.returns
unfolding constants
returns c =
    one_by_one _ _ _ _ _ _ _ _
    refl
    c.round-x1.ensures
    c.round-x2.ensures
    c.round-x3.ensures
    c.round.ensures
