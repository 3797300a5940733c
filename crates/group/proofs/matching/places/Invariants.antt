-- After j turns places 0 to j - 1 are stored. Assumes nothing.
use Prim.Native.Nat.{◌+◌}
use mathlib.Core.Path.{◌≡◌}
use lib.ListN.{replicate}
use lib.Seq.{sets}
use Rattle.area.specs.Area.{table}
use Rattle.group.proofs.matching.places.Given as goal

abbrev pub invariant-loop-j : goal.invariant-loop-j
invariant-loop-j l = (l.r ≡ sets (replicate 11 0) 0 (table l.j (λ i. l.first + i)))
