use Prim.Native.Nat.{◌+◌}
use mathlib.Core.Path.{◌≡◌, ap, ◌∙◌}
use lib.ListN.{length}
use Rattle.area.proofs.Numbers.{length_bytes8}
use Rattle.frame.proofs.Writing.{stamp_frame, sent_one, room_of}
use native.Mathlib.Omega.{arith}
use Rattle.frame.proofs.send.send_stamp.Goals as goal

pub deposit-requires : goal.deposit-requires
deposit-requires c = let h : length c.time_bytes-t.result ≡ 8 = ap length c.time_bytes-t.ensures ∙ length_bytes8 _ in let e : 17 ≡ 9 + (length c.time_bytes-t.result + (0 + 0)) = omega (arith, h) in room_of _ _ _ _ _ _ e c.requires

pub returns : goal.returns
returns c = sent_one _ _ _ _ _ _ _ _ _ (stamp_frame _ _ c.args.time c.time_bytes-t.result c.time_bytes-t.ensures) c.deposit.ensures
