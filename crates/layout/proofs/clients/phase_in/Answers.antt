-- Case by case. Assumes nothing.
use Rattle.area.specs.Area.{pick}
use Rattle.area.proofs.Tests.{tests}
use Rattle.layout.specs.Clients.{phase_in}
use Rattle.layout.proofs.clients.phase_in.Goals as goal

pub returns-in-1 : goal.returns-in-1
unfolding phase_in pick
returns-in-1 c = rw c.in-1.is

pub returns-in-2 : goal.returns-in-2
unfolding phase_in pick
returns-in-2 c = rw c.in-2.is

pub returns-in-3 : goal.returns-in-3
unfolding phase_in pick
returns-in-3 c = rw c.in-3.is

pub returns-in_default : goal.returns-in_default
unfolding phase_in pick
returns-in_default c = search tests
