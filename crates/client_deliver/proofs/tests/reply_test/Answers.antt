-- 11 first, then 12 at the sender's place. Assumes nothing.
use mathlib.Core.Bool.{not}
use mathlib.Core.Path.{ap}
use Rattle.frame.proofs.Within.{stop_not, go_on}
use Rattle.client_deliver.proofs.Senders.{sender_facts, awaited_at}
use native.Mathlib.Omega.{arith}
use Rattle.client_deliver.proofs.tests.reply_test.Goals as goal

pub returns-then-not-sender_right : goal.returns-then-not-sender_right
returns-then-not-sender_right c = stop_not _ _ _ _ c.sender_right.ensures (ap not c.if-not-sender_right.true)

pub bounds-heard-j : goal.bounds-heard-j
bounds-heard-j c =
    let a = c.args in
    let n = sender_facts a.g a.from a.h.client a.me _ _ c.sender_right.ensures (ap not c.if-not-sender_right.false) c.number_in-j.ensures in
    omega (arith, n.1, c.requires.servers_high)

pub returns : goal.returns
returns c =
    let a = c.args in
    go_on _ _ _ _ _ c.sender_right.ensures (ap not c.if-not-sender_right.false)
    (awaited_at _ a.fit a.h.sequence a.last _ _ a.heard c.awaited_test.ensures c.number_in-j.ensures)
