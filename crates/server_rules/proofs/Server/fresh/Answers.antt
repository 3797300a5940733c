use Rattle.server_rules.specs.State.{fresh_server}
use Rattle.server_rules.proofs.Server.fresh.Goals as goal

-- src/fresh.rt
pub returns : goal.returns
unfolding fresh_server
returns c = cc
