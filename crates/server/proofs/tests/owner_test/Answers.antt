use mathlib.Core.Bool.{not}
use borrow.Author.Tests.{not-true, not-false}
use mathlib.Core.Path.{ap, sym, ◌∙◌}
use Rattle.area.specs.Area.{pick}
use Rattle.server.proofs.tests.owner_test.Goals as goal

pub returns-then-not-from_owner : goal.returns-then-not-from_owner
unfolding pick
returns-then-not-from_owner c = rw (sym c.from_owner.ensures ∙ not-true _ (ap not c.if-not-from_owner.true))

pub returns : goal.returns
unfolding pick
returns c = rw (sym c.from_owner.ensures ∙ not-false _ (ap not c.if-not-from_owner.false)) c.open_test.ensures
