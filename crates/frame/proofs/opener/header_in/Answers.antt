use Rattle.frame.specs.Frames.{header_in}
use Rattle.frame.proofs.opener.header_in.Goals as goal

pub returns : goal.returns
unfolding header_in
returns c = cc
