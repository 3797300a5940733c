use Rattle.layout.proofs.PartReads.{time_read}
use native.Mathlib.Omega.{arith}
use Rattle.layout.proofs.servers.time_at.Goals as goal

-- src/servers.rt:250:1
pub returns : goal.returns
returns c = let a = c.args in time_read a.bytes.now a.c (omega arith) _ _ (omega arith) c.read8.ensures
