use Rattle.client_rules.specs.State.{fresh_client}
use Rattle.client.proofs.fresh.fresh_client.Goals as goal

pub returns : goal.returns
unfolding fresh_client
returns c = cc
