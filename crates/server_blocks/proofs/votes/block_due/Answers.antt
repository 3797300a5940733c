-- The tests together are the definition. Assumes nothing.
use Rattle.server_blocks.proofs.Counts.{due_by_lem}
use Rattle.server_blocks.proofs.votes.block_due.Goals as goal

pub returns : goal.returns
returns c =
    let a = c.args in
    due_by_lem a.g a.went a.supported a.e a.r c.enough-some.result c.both-right.result _ c.enough-some.ensures c.both-right.ensures c.both.ensures
