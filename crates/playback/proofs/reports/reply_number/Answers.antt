-- By the reply. Assumes nothing.
use Rattle.playback.proofs.Outcomes.{refused_number}
use Rattle.server_rules.specs.Delivery.{reply_number}
use borrow.Author.Rules.{rules}
use Rattle.playback.proofs.reports.reply_number.Goals as goal

pub returns-in-Ok : goal.returns-in-Ok
unfolding reply_number
returns-in-Ok c = search rules

pub returns-in-Err : goal.returns-in-Err
returns-in-Err c = refused_number _ _ _ c.in-Err.is c.number_of.ensures
