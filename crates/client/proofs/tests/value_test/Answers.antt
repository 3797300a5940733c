use mathlib.Core.Bool.{not}
use mathlib.Core.Path.{ap}
use Rattle.client_rules.specs.Tests.{value_test}
use Rattle.client.proofs.Choices.{pass_unless, stop_differs, pass_same}
use Rattle.client.proofs.tests.value_test.Goals as goal

pub returns-then-not-is_writing : goal.returns-then-not-is_writing
unfolding value_test
returns-then-not-is_writing c = pass_unless _ _ _ c.is_writing.ensures _ (ap not c.if-not-is_writing.true)

pub returns-then-len-g : goal.returns-then-len-g
unfolding value_test
returns-then-len-g c = stop_differs _ _ _ c.is_writing.ensures _ _ (ap not c.if-not-is_writing.false) c.if-len-g.true

pub returns : goal.returns
unfolding value_test
returns c = pass_same _ _ _ c.is_writing.ensures _ _ (ap not c.if-not-is_writing.false) c.if-len-g.false
