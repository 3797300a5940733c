-- By the law of `==`. Assumes nothing.
use mathlib.Core.Path.{◌∙◌}
use Rattle.area.proofs.Same.{same_is}
use Rattle.area.proofs.equal.Goals as goal

pub returns : goal.returns
returns c = c.eq.ensures ∙ same_is _ _
