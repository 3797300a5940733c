use mathlib.Core.Bool.{not}
use mathlib.Core.Path.{ap}
use Rattle.server_accept.proofs.Acceptance.{told_silent, told_late, told_due}
use borrow.Author.Tests.{not-true, not-false}
use Rattle.server_accept.proofs.tell_one.Goals as goal
use Rattle.server_accept.proofs.tell_one.Goals.{then-not-r-via-then-not-r, then-not-r-via-else-not-r+then-not-is_older}

pub returns-then-not-r : goal.returns-then-not-r
returns-then-not-r c =
    let a = c.args in
    elim c.then-not-r.branch [
      | then-not-r-via-then-not-r w ↦ told_silent a.r a.c a.x _ _ (not-true _ w.if-not-r.true)
      | then-not-r-via-else-not-r+then-not-is_older w ↦
          told_late a.r a.c a.x _ _ _ (not-false _ w.if-not-r.false) w.is_older.ensures (not-true _ (ap not w.if-not-is_older.true))
    ]

pub returns : goal.returns
returns c =
    let a = c.args in
    told_due a.r a.c a.x _ _ _ _ (not-false _ c.if-not-r.false) c.is_older.ensures (not-false _ (ap not c.if-not-is_older.false)) c.send_value.ensures
