-- Each part is read at its place. Assumes nothing.
use Rattle.layout.specs.Servers.{slot_at}
use Rattle.layout.proofs.servers.SlotField.get.Goals as goal

pub returns : goal.returns
unfolding slot_at
returns c = cc
