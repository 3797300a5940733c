-- They are an array. Assumes nothing.
use Rattle.layout.specs.Fields.{numbers_at}
use Rattle.layout.proofs.PartReads.{reports_read}
use Rattle.layout.proofs.servers.reports_at.Goals as goal

pub returns : goal.returns
unfolding numbers_at
returns c = let a = c.args in reports_read a.bytes.now _ c.get_all.ensures
