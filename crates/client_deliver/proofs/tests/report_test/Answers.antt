-- Refusal 11 first, then 12 at the sender's place. Assumes nothing.
use mathlib.Core.Bool.{not}
use mathlib.Core.Path.{ap}
use Rattle.frame.proofs.Within.{stop_not, go_on}
use Rattle.client_deliver.proofs.Senders.{report_place, report_old, report_new}
use native.Mathlib.Omega.{arith}
use Rattle.client_deliver.proofs.tests.report_test.Goals as goal

pub returns-then-not-from_server : goal.returns-then-not-from_server
returns-then-not-from_server c = stop_not _ _ _ _ c.from_server.ensures (ap not c.if-not-from_server.true)

pub bounds-reports-j : goal.bounds-reports-j
bounds-reports-j c =
    let a = c.args in
    let n = report_place a.g a.from _ _ c.from_server.ensures (ap not c.if-not-from_server.false) c.number_in-j.ensures in
    omega (arith, n.1, c.requires.servers_high)

pub returns-then-time-reports : goal.returns-then-time-reports
returns-then-time-reports c =
    let a = c.args in
    go_on _ _ _ _ _ c.from_server.ensures (ap not c.if-not-from_server.false) (report_old a.reports _ _ a.time c.number_in-j.ensures c.if-time-reports.true)

pub returns : goal.returns
returns c =
    let a = c.args in
    go_on _ _ _ _ _ c.from_server.ensures (ap not c.if-not-from_server.false) (report_new a.reports _ _ a.time c.number_in-j.ensures c.if-time-reports.false)
