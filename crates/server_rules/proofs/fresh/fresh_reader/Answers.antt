use Rattle.server_rules.specs.State.{fresh_reader}
use Rattle.server_rules.proofs.fresh.fresh_reader.Goals as goal

-- src/fresh.rt
pub returns : goal.returns
unfolding fresh_reader
returns c = cc
