-- After j turns the flags of places 0 to j - 1 are stored. Assumes nothing.
use mathlib.Core.Path.{refl}
use borrow.Author.Rules.{rules}
use Rattle.area.specs.Area.{table, table_from}
use Rattle.group.specs.Entries.{marked, timed}
use Rattle.group.proofs.Lists.{table_turn, table_end}
use native.Mathlib.Omega.{arith}
use Rattle.group.proofs.matching.at_time.Goals as goal

pub loop-j-init : goal.loop-j-init
unfolding table table_from
loop-j-init c = refl

pub loop-j-preserved : goal.loop-j-preserved
unfolding marked
loop-j-preserved c = table_turn _ _ _ _ _ c.loop-j.invariant (search rules)

pub returns : goal.returns
unfolding timed
returns c = table_end _ _ _ _ _ refl (omega arith) (omega arith) c.loop-j.invariant
