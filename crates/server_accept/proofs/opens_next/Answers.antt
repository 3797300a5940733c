use Rattle.server_accept.specs.Telling.{opens_in}
use Rattle.area.specs.Area.{pick}
use mathlib.Core.Path.{sym, ap, ◌∙◌}
use Rattle.server_accept.proofs.opens_next.Goals as goal
use Rattle.server_accept.proofs.opens_next.Goals.{then-newer, else-newer}

pub returns : goal.returns
unfolding opens_in pick
returns c = elim c.if-newer.branch [ then-newer w ↦ rw w.if-newer.true (cc) | else-newer w ↦ rw w.if-newer.false (cc) ]
