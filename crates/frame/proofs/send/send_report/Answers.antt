use Prim.Native.Nat.{◌+◌}
use mathlib.Core.Path.{◌≡◌, ap, ◌∙◌}
use mathlib.Core.List.{[]}
use lib.ListN.{length}
use Rattle.area.proofs.Numbers.{length_bytes8}
use Rattle.frame.proofs.Writing.{report_frame, length_written, room_first, room_left, room_of, sent_report}
use native.Mathlib.Omega.{arith}
use Rattle.frame.proofs.send.send_report.Goals as goal

pub deposit_all-q-requires : goal.deposit_all-q-requires
deposit_all-q-requires c =
    let t = c.time_bytes-t in
    let h : length t.result ≡ 8 = ap length t.ensures ∙ length_bytes8 _ in
    let e : 17 ≡ 9 + (length t.result + (0 + 0)) = omega (arith, h) in
    (c.requires.0.servers_high, room_of _ _ _ _ _ _ e (room_first _ c.args.g.n 8 _ _ _ c.requires.1))

pub deposit_all-requires : goal.deposit_all-requires
deposit_all-requires c =
    let t = c.time_bytes-t in
    let h : length t.result ≡ 8 = ap length t.ensures ∙ length_bytes8 _ in
    let e : 17 ≡ 9 + (length t.result + (0 + 0)) = omega (arith, h) in
    let l = length_written 13 c.args.w.client c.args.w.sequence t.result [] [] in
    (omega arith, room_of _ _ _ _ _ _ e (room_left 1 _ _ _ _ _ _ _ c.args.g.n 8 17 c.deposit_all-q.ensures (omega (arith, l, h)) c.requires.1))

pub returns : goal.returns
returns c =
    let a = c.args in
    let t = c.time_bytes-t in
    sent_report a.g _ _ _ _ _ _ _ _ _ _ _ (report_frame _ _ a.w.time t.result t.ensures) c.deposit_all-q.ensures c.deposit_all.ensures
