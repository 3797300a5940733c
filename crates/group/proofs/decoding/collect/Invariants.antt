-- After i turns the blocks of the first i servers are stored. Assumes nothing.
use mathlib.Core.Path.{◌≡◌}
use lib.ListN.{length, take}
use lib.Seq.{sets}
use Rattle.group.specs.Choice.{blocks_in}
use Rattle.group.proofs.decoding.collect.Given as goal

abbrev pub invariant-loop-i : goal.invariant-loop-i
invariant-loop-i l = (l.out ≡ sets l.initial.out 0 (blocks_in l.g l.at l.area (take l.i l.js))) × (length l.out ≡ length l.initial.out)
