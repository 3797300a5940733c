-- After j turns the flags of places 0 to j - 1 are stored. Assumes nothing.
use mathlib.Core.Path.{refl}
use Rattle.area.specs.Area.{table, table_from}
use Rattle.group.specs.Entries.{flags, Within}
use Rattle.group.proofs.Lists.{table_turn, table_end}
use Rattle.group.proofs.Matched.{flag_law}
use native.Mathlib.Omega.{arith}
use Rattle.group.proofs.matching.matching.Goals as goal

pub loop-j-init : goal.loop-j-init
unfolding table table_from
loop-j-init c = refl

pub sent_list-requires : goal.sent_list-requires
unfolding Within
sent_list-requires c =
    let p = c.requires in
    (p.bounded, p.within c.loop-j.j)

pub loop-j-preserved : goal.loop-j-preserved
loop-j-preserved c = table_turn _ _ _ _ _ c.loop-j.invariant (flag_law _ _ _ _ _ _ _ c.sent_list.ensures)

pub returns : goal.returns
unfolding flags
returns c = table_end _ _ _ _ _ refl (omega arith) (omega arith) c.loop-j.invariant
