use Rattle.client_rules.specs.Beginning.{length_test}
use Rattle.area.proofs.Tests.{tests}
use Rattle.area.specs.Area.{pick}
use Rattle.client.proofs.tests.length_test.Goals as goal

pub returns-then-len-g : goal.returns-then-len-g
unfolding length_test pick
returns-then-len-g c = search tests

pub returns : goal.returns
unfolding length_test pick
returns c = search tests
