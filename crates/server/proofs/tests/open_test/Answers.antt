use Rattle.server_rules.specs.Tests.{open_test}
use Rattle.area.proofs.Tests.{tests}
use Rattle.area.specs.Area.{pick}
use Rattle.server.proofs.tests.open_test.Goals as goal

pub returns-then-w-x : goal.returns-then-w-x
unfolding open_test pick
returns-then-w-x c = search tests

pub returns-then-x-w : goal.returns-then-x-w
unfolding open_test pick
returns-then-x-w c = search tests

pub returns-then-again : goal.returns-then-again
unfolding open_test pick
returns-then-again c = rw c.if-again.true (search tests)

pub returns : goal.returns
unfolding open_test pick
returns c = rw c.if-again.false (search tests)
