-- Before the turn of coefficient i - 1 those from i on are the product's. Assumes nothing.
use Prim.Native.Nat.{◌<◌}
use mathlib.Core.Path.{◌≡◌}
use Rattle.area.proofs.Fills.{mixed}
use Rattle.blocks.proofs.Turns.{rooted}
use Rattle.blocks.proofs.polynomial.with_root.Given as goal

abbrev pub invariant-loop-i : goal.invariant-loop-i
invariant-loop-i l = (0 < l.i) × (l.m ≡ mixed l.initial.m (rooted l.x l.initial.m) l.i)
