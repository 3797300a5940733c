-- The block is compared from its start on. Assumes nothing.
use Rattle.area.specs.Area.{pick}
use Rattle.group.proofs.Unanimous.{from_start}
use Rattle.group.proofs.decoding.is_block.Goals as goal

pub returns-then-not-mark : goal.returns-then-not-mark
unfolding pick
returns-then-not-mark c = rw c.if-not-mark.true

pub returns-else-not-mark : goal.returns-else-not-mark
unfolding pick
returns-else-not-mark c = rw c.if-not-mark.false (from_start _ _ _ _ c.requires.3 c.block_stands.ensures)
