use Prim.Native.Nat.{◌+◌}
use mathlib.Core.Path.{◌≡◌, ap, ◌∙◌}
use lib.ListN.{length}
use Rattle.frame.proofs.RoundTrip.{length_stamp}
use Rattle.frame.proofs.Writing.{value_frame, sent_one, room_of}
use native.Mathlib.Omega.{arith}
use Rattle.frame.proofs.send.send_value.Goals as goal

pub deposit-requires : goal.deposit-requires
deposit-requires c = let h : length c.stamp_bytes-t.result ≡ 13 = ap length c.stamp_bytes-t.ensures ∙ length_stamp _ in let e : 22 + (length c.args.digests.now + length c.args.block.now) ≡ 9 + (length c.stamp_bytes-t.result + (length c.args.digests.now + length c.args.block.now)) = omega (arith, h) in room_of _ _ _ _ _ _ e c.requires

pub returns : goal.returns
returns c = sent_one _ _ _ _ _ _ _ _ _ (value_frame _ _ c.args.s c.stamp_bytes-t.result c.args.digests.now c.args.block.now c.stamp_bytes-t.ensures) c.deposit.ensures
