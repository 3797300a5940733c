-- After j turns servers 1 to j were sent their blocks. Assumes nothing.
use Rattle.client_deliver.proofs.Rooms.{same_lengths}
use Rattle.client_deliver.proofs.OwnBlocks.{own, turn_none, turn_next, turn_last, turn_room}
use native.Mathlib.Omega.{arith}
use Rattle.client_deliver.proofs.dispersal.own_blocks.Goals as goal

pub loop-j-init : goal.loop-j-init
loop-j-init c = turn_none _ _

pub send_own-r-requires : goal.send_own-r-requires
send_own-r-requires c =
    let a = c.args in
    let D = c.requires.0 in
    (D, turn_room a.d.params a.value.now D.whole a.d.write _ _ _ _ _ _ _ c.loop-j-test.true c.loop-j.invariant c.requires.1)

pub loop-j-preserved : goal.loop-j-preserved
loop-j-preserved c =
    let a = c.args in
    turn_next (own a.d.params a.value.now a.d.write) c.loop-j.j _ _ _ c.loop-j.invariant c.send_own-r.ensures

pub shape_of-out : goal.shape_of-out
shape_of-out c = (same_lengths _ _ _ _ _ _ _ c.loop-j.invariant).0

pub shape_of-to : goal.shape_of-to
shape_of-to c = (same_lengths _ _ _ _ _ _ _ c.loop-j.invariant).1

pub returns : goal.returns
returns c =
    let a = c.args in
    turn_last a.d.params (own a.d.params a.value.now a.d.write) c.loop-j.j _ _ (omega arith) (omega arith) c.loop-j.invariant
