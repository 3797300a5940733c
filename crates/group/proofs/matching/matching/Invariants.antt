-- After j turns the flags of places 0 to j - 1 are stored. Assumes nothing.
use mathlib.Core.Path.{◌≡◌}
use mathlib.Core.Bool.{false}
use lib.ListN.{replicate}
use lib.Seq.{sets}
use Rattle.area.specs.Area.{table}
use Rattle.group.specs.Entries.{sent_list, passing}
use Rattle.group.proofs.matching.matching.Given as goal

abbrev pub invariant-loop-j : goal.invariant-loop-j
invariant-loop-j l = (l.r ≡ sets (replicate 11 false) 0 (table l.j (passing (sent_list l.g l.on l.at l.area l.list) l.g.n)))
