-- By the reply. Assumes nothing.
use Rattle.server_rules.specs.Delivery.{reply_count}
use borrow.Author.Rules.{rules}
use Rattle.playback.proofs.reports.reply_count.Goals as goal

pub returns-in-Ok : goal.returns-in-Ok
unfolding reply_count
returns-in-Ok c = search rules

pub returns-in-Err : goal.returns-in-Err
unfolding reply_count
returns-in-Err c = search rules
