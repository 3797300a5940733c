use Rattle.server.proofs.Present.{present_sent}
use Rattle.frame.proofs.Writing.{room_of}
use Rattle.server.proofs.Present.{present_size}
use mathlib.Core.Path.{sym}
use native.Mathlib.Omega.{arith}
use Rattle.server.proofs.reads.send_present.Goals as goal

pub send_value-requires : goal.send_value-requires
send_value-requires c =
    room_of c.args.p 1 _ _ _ _
    (sym (present_size c.args.g c.args.area.now _ c.present_block-block.result.now c.requires.0 (omega (arith, c.requires.1)) c.digests_at-digests.ensures c.present_block-block.ensures.1))
    c.requires.3

pub returns : goal.returns
returns c =
    let a = c.args in
    present_sent a.g a.x a.area.now a.initial.now _ _ _ _ _ _ c.digests_at-digests.ensures c.present_block-block.ensures.0 c.send_value.ensures
