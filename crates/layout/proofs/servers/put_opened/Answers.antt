use Rattle.layout.specs.Servers.{slot_sets}
use Rattle.layout.proofs.servers.put_opened.Goals as goal

-- src/servers.rt:219:1
pub returns : goal.returns
unfolding slot_sets
returns c = cc
