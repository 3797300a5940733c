-- Assumes nothing.
use Rattle.client.proofs.Countings.{report_law}
use Rattle.client.proofs.record.with_report.Goals as goal

pub returns : goal.returns
returns c = let a = c.args in report_law a.s a.j a.time _ c.max.ensures
