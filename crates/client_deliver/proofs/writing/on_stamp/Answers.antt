-- The tests; then the stamp is stored, and where n - t count the write goes on. Assumes nothing.
use mathlib.Core.Path.{sym, ◌∙◌}
use Rattle.frame.specs.declared.Refusal.TheVariants as R
use Rattle.frame.proofs.Verdicts.{fine_is}
use Rattle.client_rules.specs.State.{asking}
use Rattle.client_rules.specs.Tests.{message_test, order_test, answers, owner_right}
use Rattle.client_deliver.proofs.Senders.{fine_sender, awaited_fit}
use Rattle.client_deliver.proofs.Answers.{refused_is, step_is, verdict_in}
use Rattle.client_deliver.proofs.WriteLaws.{asking_writes, stamp_gathers}
use native.Mathlib.Omega.{arith}
use Rattle.client_deliver.proofs.writing.on_stamp.Goals as goal

pub returns-in-Err : goal.returns-in-Err
unfolding message_test order_test answers owner_right
returns-in-Err c =
    let a = c.args in
    λ z l. refused_is _ _ a.s z _ l _ _ (verdict_in _ _ _ _ (asking a.s.phase) _ c.reply_test-v.ensures c.is_asking.ensures) _ c.in-Err.is

pub bounds-heard-j : goal.bounds-heard-j
bounds-heard-j c =
    let a = c.args in
    let n = fine_sender a.k.params a.k.from a.k.header.client a.k.me _ _ _ c.reply_test-v.ensures c.in_default.is c.number_in-j.ensures in
    omega (arith, n.1, c.requires.0.bounded.servers_high)

pub bounds-times-j : goal.bounds-times-j
bounds-times-j c =
    let a = c.args in
    let n = fine_sender a.k.params a.k.from a.k.header.client a.k.me _ _ _ c.reply_test-v.ensures c.in_default.is c.number_in-j.ensures in
    omega (arith, n.1, c.requires.0.bounded.servers_high)

pub with_report-reported-requires : goal.with_report-reported-requires
with_report-reported-requires c =
    let a = c.args in
    let n = fine_sender a.k.params a.k.from a.k.header.client a.k.me _ _ _ c.reply_test-v.ensures c.in_default.is c.number_in-j.ensures in
    omega (arith, n.1, c.requires.0.bounded.servers_high)

pub gather-requires : goal.gather-requires
gather-requires c =
    let a = c.args in
    let p = c.requires.0 in
    let v = sym (verdict_in _ _ _ _ (asking a.s.phase) _ c.reply_test-v.ensures c.is_asking.ensures) ∙ c.in_default.is in
    let t = awaited_fit (asking a.s.phase) _ (fine_is _ R.Sender _ v).1 in
    (p.bounded, p.whole (asking_writes a.s.phase t), p.room)

pub returns : goal.returns
unfolding message_test order_test answers owner_right
returns c =
    let a = c.args in
    λ z l. step_is _ _ a.s z _ l _ _ (verdict_in _ _ _ _ (asking a.s.phase) _ c.reply_test-v.ensures c.is_asking.ensures) _ c.in_default.is
    (stamp_gathers a.k.params a.k.me a.s a.value.now z l _ _ _ _ _ _ _ _ c.number_in-j.ensures c.read8-time.ensures c.with_report-reported.ensures c.in_phase-client.ensures _ (c.gather.ensures z l))
