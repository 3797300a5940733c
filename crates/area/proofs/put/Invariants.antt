-- After j turns the first j bytes of src are stored. Assumes nothing.
use Prim.Native.Nat.{◌≤◌}
use mathlib.Core.Path.{◌≡◌}
use lib.ListN.{length, take}
use lib.Seq.{sets}
use Rattle.area.proofs.put.Given as goal

abbrev pub invariant-loop-j : goal.invariant-loop-j
invariant-loop-j l = (l.area ≡ sets l.initial.area l.at (take l.j l.src)) × (l.j ≤ length l.src) × (length l.area ≡ length l.initial.area)
