use Rattle.layout.specs.Servers.{scope_sets}
use Rattle.layout.proofs.servers.put_scope.Goals as goal

-- src/servers.rt:228:1
pub returns : goal.returns
unfolding scope_sets
returns c = cc
