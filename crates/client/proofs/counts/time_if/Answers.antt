-- Assumes nothing.
use Rattle.area.specs.Area.{pick}
use borrow.Author.Rules.{rules}
use Rattle.client.proofs.counts.time_if.Goals as goal

pub returns-then-counts : goal.returns-then-counts
unfolding pick
returns-then-counts c = search rules

pub returns-else-counts : goal.returns-else-counts
unfolding pick
returns-else-counts c = search rules
