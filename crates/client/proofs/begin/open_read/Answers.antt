use Rattle.client.proofs.Beginnings.{read_law}
use Rattle.client.proofs.begin.open_read.Goals as goal

pub returns : goal.returns
returns c = read_law _ _ _ _ _ _ _ _ _ c.fresh_rows-rows.ensures c.ask_all-end.ensures
