use Rattle.client_rules.specs.State.{fresh_row}
use Rattle.client.proofs.fresh.fresh_row.Goals as goal

pub returns : goal.returns
unfolding fresh_row
returns c = cc
