-- After j turns r counts the stamps of servers 1 to j that count. Assumes nothing.
use Prim.Native.Nat.{◌≤◌}
use mathlib.Core.Path.{◌≡◌}
use Rattle.quorum.specs.Quorum.{count}
use Rattle.client.proofs.Countings.{counts}
use Rattle.client.proofs.counts.is_gathered.Given as goal

abbrev pub invariant-loop-j : goal.invariant-loop-j
invariant-loop-j l = (l.r ≡ count (counts l.g l.heard l.times l.reports) l.j) × (l.r ≤ l.j)
