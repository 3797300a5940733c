use Rattle.server_accept.proofs.Acceptance.{all_due, none_due}
use Rattle.server_accept.proofs.report_if.Goals as goal

pub returns-then-due : goal.returns-then-due
returns-then-due c = all_due _ _ _ _ c.if-due.true c.send_report.ensures

pub returns : goal.returns
returns c = none_due _ _ _ c.if-due.false
