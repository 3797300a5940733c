use Rattle.frame.specs.Frames.{body_test}
use Rattle.area.specs.Area.{pick}
use Rattle.area.proofs.Tests.{tests}
use Rattle.frame.proofs.opener.body_test.Goals as goal

pub returns-then-len-body_length : goal.returns-then-len-body_length
unfolding body_test pick
returns-then-len-body_length c = search (tests, ← c.body_length.ensures.0)

pub returns : goal.returns
unfolding body_test pick
returns c = search (tests, ← c.body_length.ensures.0)
