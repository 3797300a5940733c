use Rattle.layout.proofs.PartReads.{report_read}
use native.Mathlib.Omega.{arith}
use Rattle.layout.proofs.servers.report_at.Goals as goal

-- src/servers.rt:284:1
pub returns : goal.returns
returns c = let a = c.args in report_read a.bytes.now a.j _ (omega arith) c.read8.ensures
