use Rattle.client.proofs.RowLaws.{row_law}
use Rattle.client.proofs.rows.row_with.Goals as goal

pub returns : goal.returns
returns c = row_law c.args.r _ _ _ c.more.ensures
