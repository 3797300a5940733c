use Rattle.frame.proofs.Writing.{stored}
use Rattle.frame.proofs.entries.put_entry.Goals as goal

pub returns : goal.returns
returns c = stored _ _ _ _ _ _ c.put.ensures c.put-2.ensures
