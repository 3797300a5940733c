-- By the flag. Assumes nothing.
use mathlib.Core.Path.{refl}
use Rattle.area.proofs.Tests.{pick_yes, pick_no}
use Rattle.client_search.proofs.ending.read_answer.Goals as goal

pub returns-then-agree : goal.returns-then-agree
returns-then-agree c = pick_yes _ _ _ refl c.if-agree.true refl

pub returns-else-agree : goal.returns-else-agree
returns-else-agree c = pick_no _ _ _ refl c.if-agree.false refl
