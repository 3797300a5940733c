-- After j turns places 0 to j - 1 are stored. Assumes nothing.
use Prim.Native.Nat.{◌+◌}
use mathlib.Core.Path.{refl}
use Rattle.area.specs.Area.{table, table_from}
use Rattle.group.specs.Entries.{places_from}
use Rattle.group.proofs.Lists.{table_turn, table_end}
use native.Mathlib.Omega.{arith}
use Rattle.group.proofs.matching.places.Goals as goal

pub loop-j-init : goal.loop-j-init
unfolding table table_from
loop-j-init c = refl

pub loop-j-preserved : goal.loop-j-preserved
loop-j-preserved c = table_turn (λ i. c.args.first + i) _ _ _ _ c.loop-j.invariant refl

pub returns : goal.returns
unfolding places_from
returns c = table_end _ _ _ _ _ refl (omega arith) (omega arith) c.loop-j.invariant
