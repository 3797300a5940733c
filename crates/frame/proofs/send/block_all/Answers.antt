use Prim.Native.Nat.{◌+◌}
use mathlib.Core.Path.{◌≡◌, ap, ◌∙◌}
use lib.ListN.{length}
use Rattle.area.proofs.Numbers.{length_bytes8}
use Rattle.frame.specs.Outbox.{stage_of}
use Rattle.frame.proofs.Writing.{block_frame_lem, sent_all, room_of}
use native.Mathlib.Omega.{arith}
use Rattle.frame.proofs.send.block_all.Goals as goal

pub deposit_all-requires : goal.deposit_all-requires
deposit_all-requires c =
    let a = c.args in
    let p = c.requires in
    let t = c.time_bytes-t in
    let h : length t.result ≡ 8 = ap length t.ensures ∙ length_bytes8 _ in
    let m = length a.digests.now + length a.block.now in
    let e : 17 + m ≡ 9 + (length t.result + m) = omega (arith, h) in
    (p.0.servers_high, room_of _ _ _ _ _ _ e p.1)

pub returns : goal.returns
returns c =
    let a = c.args in
    let t = c.time_bytes-t in
    let k = c.block_kind.ensures in
    let f = block_frame_lem _ _ _ a.w.time (stage_of a.z) t.result a.digests.now a.block.now k t.ensures in
    sent_all a.g _ _ _ _ _ _ _ _ f c.deposit_all.ensures
