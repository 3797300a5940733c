-- Before each turn the answer is r times s to the power e. Assumes nothing.
use mathlib.Core.Path.{◌≡◌}
use Prim.Native.Nat.{◌<◌}
use Rattle.field.specs.Field.{◌⊗◌, power_of}
use Rattle.field.proofs.inverse.Given as goal

abbrev pub invariant-loop-e : goal.invariant-loop-e
invariant-loop-e l = (l.r ⊗ power_of l.s l.e ≡ power_of l.a 254) × (l.r < 256)

abbrev pub decreases-loop-e : goal.decreases-loop-e
decreases-loop-e l = l.e
