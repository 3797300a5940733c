-- The tests; then the value is kept. Assumes nothing.
use Rattle.client_rules.specs.Tests.{message_test, order_test, answers, owner_right}
use Rattle.client_deliver.proofs.Senders.{fine_sender}
use Rattle.client_deliver.proofs.Answers.{refused_is, step_is}
use Rattle.client_deliver.proofs.ReadLaws.{kept_from, value_verdict}
use Rattle.client_deliver.proofs.reading.on_value.Goals as goal

pub returns-in-Err : goal.returns-in-Err
unfolding message_test order_test answers owner_right
returns-in-Err c =
    let a = c.args in
    refused_is _ _ a.s a.area.now _ _ _ _ (value_verdict a.k.params a.k.me a.s a.k.from a.k.header _ _ _ _ c.stamp_in-x.ensures c.entry_test-v.ensures) _ c.in-Err.is

pub keep-requires : goal.keep-requires
keep-requires c =
    let a = c.args in
    let n = fine_sender a.k.params a.k.from a.k.header.client a.k.me _ _ _ c.entry_test-v.ensures c.in_default.is c.number_in-j.ensures in
    (c.requires.0, n.0, n.1, c.requires.1)

pub returns : goal.returns
unfolding message_test order_test answers owner_right
returns c =
    let a = c.args in
    step_is _ _ a.s a.area.now _ _ _ _ (value_verdict a.k.params a.k.me a.s a.k.from a.k.header _ _ _ _ c.stamp_in-x.ensures c.entry_test-v.ensures) _ c.in_default.is
    (kept_from a.k.params a.k.me a.s a.area.now _ _ _ _ _ _ _ _ _ c.number_in-j.ensures c.stamp_in-x.ensures c.keep.ensures)
