use Rattle.frame.specs.Stamps.{parts_agree}
use Rattle.area.specs.Area.{pick}
use Rattle.area.proofs.Tests.{tests}
use Rattle.frame.proofs.stamps.parts_agree.Goals as goal

pub returns-then-s-ne0 : goal.returns-then-s-ne0
unfolding parts_agree pick
returns-then-s-ne0 c = search tests

pub returns-else-s-ne0 : goal.returns-else-s-ne0
unfolding parts_agree pick
returns-else-s-ne0 c = search tests

pub returns-then-s-eq0-2 : goal.returns-then-s-eq0-2
unfolding parts_agree pick
returns-then-s-eq0-2 c = search tests

pub returns-else-s-eq0-2 : goal.returns-else-s-eq0-2
unfolding parts_agree pick
returns-else-s-eq0-2 c = search tests
