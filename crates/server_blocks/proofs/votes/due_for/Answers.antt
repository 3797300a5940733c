-- What is due, in one struct. Assumes nothing.
use Rattle.server_blocks.proofs.Counts.{due_for_lem}
use Rattle.server_blocks.proofs.votes.due_for.Goals as goal

pub returns : goal.returns
returns c = let a = c.args in due_for_lem a.g a.went a.v a.supported a.time _ _ c.block_due-ready.ensures c.block_full-complete.ensures
