use Rattle.server_rules.specs.State.{fresh_slot}
use Rattle.server_rules.proofs.fresh.fresh_slot.Goals as goal

-- src/fresh.rt
pub returns : goal.returns
unfolding fresh_slot
returns c = cc
