use Rattle.frame.proofs.Chain.{content_none, content_stamp}
use Rattle.frame.proofs.opener.content_test.Goals as goal

pub returns-then-kind-ne11 : goal.returns-then-kind-ne11
returns-then-kind-ne11 c = content_none _ _ c.if-kind-ne11.true

pub stamp_in-requires : goal.stamp_in-requires
stamp_in-requires c = c.requires c.if-kind-ne11.false

pub returns : goal.returns
returns c = content_stamp _ _ _ _ c.if-kind-ne11.false c.stamp_in.ensures c.stamp_test.ensures
