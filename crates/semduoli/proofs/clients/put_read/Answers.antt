-- Only a value that was read has a stamp. Assumes nothing.
use Rattle.semduoli.specs.Handed.{stamp_after}
use Rattle.semduoli.proofs.Handed.{stamp_case, stamp_kept}
use Rattle.semduoli.proofs.clients.put_read.Goals as goal

pub returns-in-Value : goal.returns-in-Value
unfolding stamp_after
returns-in-Value c = stamp_case _ _ _ _ c.in-Value.is c.put.ensures.puts

pub returns-in_default : goal.returns-in_default
returns-in_default c = stamp_kept _ _ c.in_default.not-Value
