use Rattle.client.proofs.Countings.{quorate_law}
use Rattle.client.proofs.counts.is_quorate.Goals as goal

pub returns : goal.returns
returns c = quorate_law _ _ _ c.tally.ensures.0
