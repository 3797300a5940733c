-- n - t echoes, or q readies, as the two tests find it. Assumes nothing.
use Rattle.server_blocks.proofs.Counts.{enough_yes, enough_rest}
use Rattle.server_blocks.proofs.votes.enough.Goals as goal

pub returns-then-g-e : goal.returns-then-g-e
returns-then-g-e c = let a = c.args in enough_yes a.g a.e a.r c.if-g-e.true

pub returns : goal.returns
returns c = let a = c.args in enough_rest a.g a.e a.r c.quota.result c.if-g-e.false c.quota.ensures
