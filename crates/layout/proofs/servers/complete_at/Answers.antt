-- The flag is read at its place. Assumes nothing.
use native.Mathlib.Omega.{arith}
use Rattle.layout.proofs.PartReads.{complete_read}
use Rattle.layout.proofs.servers.complete_at.Goals as goal

pub returns : goal.returns
returns c = let a = c.args in complete_read a.bytes.now a.c (omega arith) _ _ (omega arith) c.get.ensures
