use Rattle.area.proofs.Tests.{tests}
use Rattle.area.specs.Area.{pick}
use Rattle.client.proofs.rows.more.Goals as goal

pub returns-then-count-lt4 : goal.returns-then-count-lt4
unfolding pick
returns-then-count-lt4 c = search tests

pub returns-else-count-lt4 : goal.returns-else-count-lt4
unfolding pick
returns-else-count-lt4 c = search tests
