use Rattle.server.proofs.Sending.{value_size}
use Rattle.server_accept.proofs.Telling.{tell_room, told_room, ack_room, report_room}
use Rattle.server_accept.proofs.Acceptance.{accepted}
use Prim.Native.Nat.{◌*◌, ◌-◌}
use mathlib.Core.Path.{◌∙◌}
use native.Mathlib.Omega.{arith}
use Rattle.server_accept.proofs.accept.Goals as goal

pub tell-told-requires : goal.tell-told-requires
tell-told-requires c =
    let a = c.args in
    let P = c.requires.0 in
    tell_room a.p a.g.n _ _ _ _
    (value_size a.g a.area.now (21 * a.c - 20) _ _ P.bounded (omega (arith, P.client_low, P.client_high, P.whole)) c.digests_at-digests.ensures c.block_at-block.ensures)
    P.room

pub send_ack-acked-requires : goal.send_ack-acked-requires
send_ack-acked-requires c =
    let a = c.args in
    let P = c.requires.0 in
    ack_room _ a.g.n _ _ (told_room _ _ _ _ a.p _ _ _ _ _ a.g.n _
    (value_size a.g a.area.now (21 * a.c - 20) _ _ P.bounded (omega (arith, P.client_low, P.client_high, P.whole)) c.digests_at-digests.ensures c.block_at-block.ensures)
    c.tell-told.ensures
    P.room)

pub report_if-place-requires : goal.report_if-place-requires
report_if-place-requires c =
    let a = c.args in
    let P = c.requires.0 in (
      P.bounded,
      report_room _ _ _ _ _ _ _ _ a.g.n c.send_ack-acked.ensures (told_room _ _ _ _ a.p _ _ _ _ _ a.g.n _
          (value_size a.g a.area.now (21 * a.c - 20) _ _ P.bounded (omega (arith, P.client_low, P.client_high, P.whole)) c.digests_at-digests.ensures c.block_at-block.ensures)
          c.tell-told.ensures
          P.room),
    )

pub replace-requires : goal.replace-requires
replace-requires c =
    let P = c.requires.0 in
    (P.bounded, omega (arith, P.client_low, P.client_high), omega (arith, P.client_high, P.whole))

pub opens_next-scope-requires : goal.opens_next-scope-requires
opens_next-scope-requires c = c.requires.2

pub shape_of-out : goal.shape_of-out
shape_of-out c = c.report_if-place.auto.out ∙ c.send_ack-acked.auto.out ∙ c.tell-told.auto.out

pub shape_of-to : goal.shape_of-to
shape_of-to c = c.report_if-place.auto.to ∙ c.send_ack-acked.auto.to ∙ c.tell-told.auto.to

pub returns : goal.returns
returns c =
    let a = c.args in
    λ w k. accepted a.g w a.c a.s _ a.readers a.area.now _ _ _ _ _ _ _ _ k
    c.digests_at-digests.ensures c.block_at-block.ensures c.is_older-newer.ensures c.tell-told.ensures c.send_ack-acked.ensures c.report_if-place.ensures c.replace.ensures c.opens_next-scope.ensures
