use Rattle.area.proofs.Tests.{pick_yes, pick_no}
use mathlib.Core.Path.{refl}
use Rattle.client.proofs.tests.closed_test.Goals as goal

pub returns-then-closed : goal.returns-then-closed
returns-then-closed c = pick_yes _ _ _ refl c.if-closed.true refl

pub returns : goal.returns
returns c = pick_no _ _ _ refl c.if-closed.false refl
