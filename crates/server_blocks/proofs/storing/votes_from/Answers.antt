-- By the kind. Assumes nothing.
use Rattle.area.specs.Area.{pick}
use Rattle.server_blocks.specs.Stage.{votes_from}
use native.Mathlib.Omega.{arith}
use Rattle.server_blocks.proofs.storing.votes_from.Goals as goal

pub returns-then-echo : goal.returns-then-echo
unfolding votes_from pick
returns-then-echo c = (rw c.if-echo.true, omega (arith, c.requires.1))

pub returns : goal.returns
unfolding votes_from pick
returns c = (rw c.if-echo.false, omega (arith, c.requires.1))
