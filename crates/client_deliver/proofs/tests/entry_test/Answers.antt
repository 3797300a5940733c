-- 11 first, then 12 and 14 of the sender's value. Assumes nothing.
use mathlib.Core.Bool.{not}
use mathlib.Core.Path.{ap, ◌∙◌}
use Rattle.sha256.specs.Hash.{digest_of}
use Rattle.frame.specs.Frames.{entry_in, value_at}
use Rattle.frame.proofs.Within.{stop_not, go_on}
use Rattle.client_rules.specs.Tests.{kept_test}
use Rattle.client_deliver.proofs.Senders.{sender_facts}
use Rattle.client_deliver.proofs.tests.entry_test.Goals as goal

pub returns-then-not-sender_right : goal.returns-then-not-sender_right
returns-then-not-sender_right c = stop_not _ _ _ _ c.sender_right.ensures (ap not c.if-not-sender_right.true)

pub kept_test-requires : goal.kept_test-requires
kept_test-requires c =
    let a = c.args in
    let n = sender_facts a.g a.from a.h.client a.me _ _ c.sender_right.ensures (ap not c.if-not-sender_right.false) c.number_in-j.ensures in
    (c.requires.0, n.0, n.1, c.requires.1)

pub returns : goal.returns
returns c =
    let a = c.args in
    go_on _ _ _ _ _ c.sender_right.ensures (ap not c.if-not-sender_right.false)
    (c.kept_test.ensures
    ∙ ap (λ j. kept_test digest_of a.s j a.h.sequence a.x (entry_in a.g a.f.now value_at)) c.number_in-j.ensures)
