-- After j turns r is the largest of the times that count, of servers 1 to j. Assumes nothing.
use mathlib.Core.Path.{◌≡◌}
use Rattle.client_rules.specs.State.{largest}
use Rattle.client.proofs.Countings.{time_at}
use Rattle.client.proofs.counts.largest_counted.Given as goal

abbrev pub invariant-loop-j : goal.invariant-loop-j
invariant-loop-j l = (l.r ≡ largest (time_at l.g l.heard l.times l.reports) l.j)
