use Rattle.frame.specs.Stamps.{same_stamp}
use Rattle.frame.proofs.stamps.is_same.Goals as goal

pub returns : goal.returns
unfolding same_stamp
returns c = c.eq.ensures
