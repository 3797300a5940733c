-- By the kind. Assumes nothing.
use Rattle.area.specs.Area.{pick}
use Rattle.server_blocks.proofs.storing.flags_of.Goals as goal

pub returns-then-echo : goal.returns-then-echo
unfolding pick
returns-then-echo c = rw c.if-echo.true

pub returns : goal.returns
unfolding pick
returns c = rw c.if-echo.false
