use Rattle.frame.specs.Chunks.{entry_at}
use Rattle.frame.proofs.Writing.{part_at}
use Rattle.frame.proofs.entries.block_at.Goals as goal

pub returns : goal.returns
unfolding entry_at
returns c = part_at _ _ _ _ c.width.ensures.0
