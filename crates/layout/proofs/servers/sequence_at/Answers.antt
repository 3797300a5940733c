use Rattle.layout.proofs.PartReads.{sequence_read}
use native.Mathlib.Omega.{arith}
use Rattle.layout.proofs.servers.sequence_at.Goals as goal

-- src/servers.rt:258:1
pub returns : goal.returns
returns c = let a = c.args in sequence_read a.bytes.now a.c (omega arith) _ c.read8.ensures
