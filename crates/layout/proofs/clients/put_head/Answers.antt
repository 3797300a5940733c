-- The parts are stored one after the other. Assumes nothing.
use mathlib.Core.Path.{refl}
use Rattle.layout.proofs.Puts.{head_put}
use Rattle.layout.proofs.clients.put_head.Goals as goal

pub returns : goal.returns
returns c = head_put _ _ _ _ _ _ _ _ _ _ _ _ refl c.phase_byte.ensures c.write4.ensures c.write4-2.ensures c.put.ensures.puts refl
