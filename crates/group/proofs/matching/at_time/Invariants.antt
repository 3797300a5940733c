-- After j turns the flags of places 0 to j - 1 are stored. Assumes nothing.
use mathlib.Core.Path.{◌≡◌}
use mathlib.Core.Bool.{false, ◌&&◌}
use lib.ListN.{get_or, replicate}
use lib.Dec.{eqb}
use lib.Seq.{sets}
use Rattle.area.specs.Area.{table}
use Rattle.group.specs.Entries.{marked}
use Rattle.group.proofs.matching.at_time.Given as goal

abbrev pub invariant-loop-j : goal.invariant-loop-j
invariant-loop-j l = (l.r ≡ sets (replicate 11 false) 0 (table l.j (λ i. marked l.on i && eqb (get_or l.times i 0) l.time)))
