use Rattle.layout.proofs.PartReads.{own_read}
use Rattle.layout.proofs.servers.own_time.Goals as goal

-- src/servers.rt:266:1
pub returns : goal.returns
returns c = let a = c.args in own_read a.bytes.now _ c.read8.ensures
