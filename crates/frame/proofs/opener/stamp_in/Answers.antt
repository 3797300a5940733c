use Rattle.frame.specs.Frames.{stamp_in}
use Rattle.frame.proofs.opener.stamp_in.Goals as goal

pub returns : goal.returns
unfolding stamp_in
returns c = cc
