-- The tests; then the ack is counted, and at n - t the write has ended. Assumes nothing.
use mathlib.Core.Bool.{not}
use mathlib.Core.Path.{ap}
use Rattle.client_rules.specs.State.{acking}
use Rattle.client_rules.specs.Tests.{message_test, order_test, answers, owner_right}
use Rattle.client_deliver.proofs.Senders.{fine_sender}
use Rattle.client_deliver.proofs.Answers.{refused_is, step_is, verdict_in}
use Rattle.client_deliver.proofs.WriteLaws.{ack_waits, ack_ends}
use native.Mathlib.Omega.{arith}
use Rattle.client_deliver.proofs.writing.on_ack.Goals as goal

pub returns-in-Err : goal.returns-in-Err
unfolding message_test order_test answers owner_right
returns-in-Err c =
    let a = c.args in
    λ z l o t. refused_is _ _ a.s z _ l o t (verdict_in _ _ _ _ (acking a.s.phase) _ c.reply_test-v.ensures c.is_acking.ensures) _ c.in-Err.is

pub bounds-heard-j : goal.bounds-heard-j
bounds-heard-j c =
    let a = c.args in
    let n = fine_sender a.k.params a.k.from a.k.header.client a.k.me _ _ _ c.reply_test-v.ensures c.in_default.is c.number_in-j.ensures in
    omega (arith, n.1, c.requires.servers_high)

pub returns-then-not-is_quorate : goal.returns-then-not-is_quorate
unfolding message_test order_test answers owner_right
returns-then-not-is_quorate c =
    let a = c.args in
    λ z l o t. step_is _ _ a.s z _ l o t (verdict_in _ _ _ _ (acking a.s.phase) _ c.reply_test-v.ensures c.is_acking.ensures) _ c.in_default.is
    (ack_waits a.k.params a.k.me a.s z l o t _ _ _ _ c.number_in-j.ensures c.is_quorate.ensures c.in_phase-client.ensures (ap not c.if-not-is_quorate.true))

pub returns : goal.returns
unfolding message_test order_test answers owner_right
returns c =
    let a = c.args in
    λ z l o t. step_is _ _ a.s z _ l o t (verdict_in _ _ _ _ (acking a.s.phase) _ c.reply_test-v.ensures c.is_acking.ensures) _ c.in_default.is
    (ack_ends a.k.params a.k.me a.s z l o t _ _ _ _ c.number_in-j.ensures c.is_quorate.ensures c.in_phase-client-2.ensures (ap not c.if-not-is_quorate.false))
