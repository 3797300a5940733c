-- The entries counted, and those that are left, are those of the whole trace. Assumes nothing.
use Prim.Native.Nat.{◌-◌, ◌≤◌}
use lib.ListN.{length}
use Rattle.entries.proofs.Traces.{Counts}
use Rattle.entries.proofs.reader.survey.Given as goal

abbrev pub invariant-loop-closing : goal.invariant-loop-closing
invariant-loop-closing l = (l.at ≤ length l.trace) × (l.count ≤ l.at) × Counts l.trace l.at l.count

abbrev pub decreases-loop-closing : goal.decreases-loop-closing
decreases-loop-closing l = length l.trace - l.at
