use Rattle.client.proofs.RowLaws.{smallest_law}
use Rattle.client.proofs.rows.smallest_of.Goals as goal

pub returns : goal.returns
returns c = (smallest_law _ _ _ _ c.smaller-a.ensures.0 c.smaller-b.ensures.0 c.smaller.ensures.0, c.smaller.ensures.1)
