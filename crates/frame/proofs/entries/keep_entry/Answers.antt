use Rattle.frame.proofs.Writing.{stored_from_lem}
use Rattle.frame.proofs.entries.keep_entry.Goals as goal

pub returns : goal.returns
returns c = stored_from_lem _ _ _ _ _ _ _ c.width.ensures.0 c.put_entry.ensures
