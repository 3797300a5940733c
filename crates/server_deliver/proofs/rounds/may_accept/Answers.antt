use mathlib.Core.Bool.{not}
use mathlib.Core.Path.{ap, sym, ◌∙◌}
use borrow.Author.Tests.{not-true, not-false}
use Rattle.server_deliver.proofs.Acceptances.{may_not, may_is}
use Rattle.server_deliver.proofs.rounds.may_accept.Goals as goal

-- src/rounds.rt:33:9
pub returns-then-not-complete_at : goal.returns-then-not-complete_at
returns-then-not-complete_at c = let a = c.args in may_not a.g _ a.c (sym c.complete_at.ensures ∙ not-true _ (ap not c.if-not-complete_at.true))

-- src/rounds.rt:28:1
pub returns : goal.returns
returns c = let a = c.args in may_is a.g _ a.c _ _ _ _ _ (sym c.complete_at.ensures ∙ not-false _ (ap not c.if-not-complete_at.false)) c.time_at-time.ensures c.sequence_at-sequence.ensures c.own_time-own.ensures c.reports_at-reports.ensures c.is_ripe.ensures
