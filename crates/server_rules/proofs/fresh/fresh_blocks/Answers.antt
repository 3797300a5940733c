use Rattle.server_rules.specs.State.{fresh_blocks}
use mathlib.Core.Path.{refl}
use Rattle.server_rules.proofs.fresh.fresh_blocks.Goals as goal

-- src/fresh.rt
pub returns : goal.returns
unfolding fresh_blocks
returns c = refl
