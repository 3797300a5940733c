-- The three stores. Assumes nothing.
use Rattle.sha256.specs.Steps.{laid, block_count}
use Rattle.sha256.proofs.pad.Goals as goal

pub returns : goal.returns
unfolding laid block_count
returns c = rw (c.write8.ensures, c.put.ensures, c.requires.1)
