-- The parts are stored one after the other. Assumes nothing.
use Rattle.layout.specs.Fields.{numbers_bytes}
use Rattle.layout.proofs.Puts.{blocks_put}
use Rattle.layout.proofs.servers.put_blocks.Goals as goal

pub returns : goal.returns
unfolding numbers_bytes
returns c = blocks_put _ _ _ _ _ _ _ c.args.b.now c.put_marks.ensures c.write8.ensures c.put_votes.ensures c.put_all.ensures c.put_all-2.ensures
