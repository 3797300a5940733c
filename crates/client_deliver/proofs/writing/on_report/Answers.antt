-- The tests; then the report is stored, and in the first part of a write the write goes on where n - t count. Assumes nothing.
use mathlib.Core.Bool.{not}
use mathlib.Core.Path.{sym, ◌∙◌, ap}
use Rattle.client_rules.specs.Tests.{message_test, order_test, answers, owner_right}
use Rattle.client_deliver.proofs.Senders.{report_sender}
use Rattle.client_deliver.proofs.Answers.{refused_is, step_is, report_in}
use Rattle.client_deliver.proofs.WriteLaws.{asking_writes, report_kept, report_gathers}
use native.Mathlib.Omega.{arith}
use Rattle.client_deliver.proofs.writing.on_report.Goals as goal

pub returns-in-Err : goal.returns-in-Err
unfolding message_test order_test answers owner_right
returns-in-Err c =
    let a = c.args in
    λ z l. refused_is _ _ a.s z _ l _ _ (report_in _ _ _ _ _ _ c.report_test-v.ensures c.read8-time.ensures) _ c.in-Err.is

pub with_report-client-requires : goal.with_report-client-requires
with_report-client-requires c =
    let a = c.args in
    let n = report_sender a.k.params a.k.from _ _ _ c.report_test-v.ensures c.in_default.is c.number_in-j.ensures in
    omega (arith, n.1, c.requires.0.bounded.servers_high)

pub returns-then-not-is_asking : goal.returns-then-not-is_asking
unfolding message_test order_test answers owner_right
returns-then-not-is_asking c =
    let a = c.args in
    λ z l. step_is _ _ a.s z _ l _ _ (report_in _ _ _ _ _ _ c.report_test-v.ensures c.read8-time.ensures) _ c.in_default.is
    (report_kept a.k.params a.k.me a.s a.value.now z l _ _ _ _ _ _ _ a.s c.number_in-j.ensures c.read8-time.ensures c.with_report-client.ensures _ c.is_asking.ensures (ap not c.if-not-is_asking.true))

pub gather-requires : goal.gather-requires
gather-requires c =
    let a = c.args in
    let p = c.requires.0 in
    let t = sym c.is_asking.ensures ∙ c.if-not-is_asking.false in
    (p.bounded, p.whole (asking_writes a.s.phase t), p.room)

pub returns : goal.returns
unfolding message_test order_test answers owner_right
returns c =
    let a = c.args in
    λ z l. step_is _ _ a.s z _ l _ _ (report_in _ _ _ _ _ _ c.report_test-v.ensures c.read8-time.ensures) _ c.in_default.is
    (report_gathers a.k.params a.k.me a.s a.value.now z l _ _ _ _ _ _ _ a.s c.number_in-j.ensures c.read8-time.ensures c.with_report-client.ensures _ c.is_asking.ensures _ (ap not c.if-not-is_asking.false) (c.gather.ensures z l))
