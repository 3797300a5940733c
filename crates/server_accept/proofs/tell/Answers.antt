use Prim.Native.Nat.{◌-◌}
use mathlib.Core.Path.{◌≡◌, refl}
use Rattle.frame.specs.Messages.{entry}
use native.Mathlib.Nat.{le_refl}
use Rattle.frame.proofs.Rooms.{room_within}
use Rattle.server_accept.proofs.Telling.{room_told}
use Rattle.server_accept.proofs.Acceptance.{tell_turn, tell_end}
use native.Mathlib.Omega.{arith}
use Rattle.server_accept.proofs.tell.Goals as goal

pub loop-c-init : goal.loop-c-init
loop-c-init c = (refl, c.requires, refl, refl)

pub tell_one-q-requires : goal.tell_one-q-requires
tell_one-q-requires c =
    room_within c.loop-c.q (9 - c.loop-c.c) 1 _ _ _ _ (omega arith) (le_refl _) c.loop-c.invariant.1

pub loop-c-preserved : goal.loop-c-preserved
loop-c-preserved c =
    let a = c.args in
    let h = c.loop-c-test.true in
    let f = c.tell_one-q.ensures in (
      tell_turn a.readers a.x (entry a.digests.now a.block.now) c.loop-c.c _ _ _ _ h refl f c.loop-c.invariant.0,
      room_told _ a.x (entry a.digests.now a.block.now) c.loop-c.c c.loop-c.q _ _ _ _ _ h f c.loop-c.invariant.1,
      omega arith,
      omega arith,
    )

pub returns : goal.returns
returns c =
    let a = c.args in
    let e : c.loop-c.c ≡ 9 = omega arith in
    tell_end a.readers a.x (entry a.digests.now a.block.now) c.loop-c.c _ _ e c.loop-c.invariant.0
