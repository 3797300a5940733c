use Rattle.server_rules.specs.Tests.{read_test}
use Rattle.area.proofs.Tests.{tests}
use Rattle.area.specs.Area.{pick}
use Rattle.server.proofs.tests.read_test.Goals as goal

pub returns-then-q-r : goal.returns-then-q-r
unfolding read_test pick
returns-then-q-r c = search tests

pub returns : goal.returns
unfolding read_test pick
returns c = search tests
