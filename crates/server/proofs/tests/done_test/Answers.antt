use Rattle.server_rules.specs.Tests.{done_test}
use Rattle.area.proofs.Tests.{tests}
use Rattle.area.specs.Area.{pick}
use Rattle.server.proofs.tests.done_test.Goals as goal

pub returns-then-q-r : goal.returns-then-q-r
unfolding done_test pick
returns-then-q-r c = search tests

pub returns-then-q-r-2 : goal.returns-then-q-r-2
unfolding done_test pick
returns-then-q-r-2 c = search tests

pub returns-then-r : goal.returns-then-r
unfolding done_test pick
returns-then-r c = rw c.if-r.true (search tests)

pub returns : goal.returns
unfolding done_test pick
returns c = rw c.if-r.false (search tests)
