use Rattle.client.proofs.Beginnings.{write_law}
use Rattle.client.proofs.begin.open_write.Goals as goal

pub returns : goal.returns
returns c = write_law _ _ _ _ _ _ _ _ c.ask_all-end.ensures
