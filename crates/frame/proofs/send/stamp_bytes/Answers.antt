use mathlib.Core.Path.{◌≡◌, ap, ◌∙◌}
use lib.ListN.{length, set, length-set}
use lib.Seq.{sets, length-sets}
use Rattle.area.specs.Numbers.{bytes2, bytes4, bytes8}
use Rattle.frame.specs.Frames.{stamp_bytes}
use native.Mathlib.Omega.{arith}
use Rattle.frame.proofs.send.stamp_bytes.Goals as goal

pub write4-requires : goal.write4-requires
write4-requires c = let h : length c.write8.new.area ≡ 13 = ap length c.write8.ensures ∙ simp length-sets in omega (arith, h, length-set c.write8.new.area 8 c.args.s.writer)

pub returns : goal.returns
unfolding stamp_bytes bytes8 bytes4 bytes2
returns c = c.write4.ensures ∙ ap (λ z. sets (set z 8 c.args.s.writer) 9 (bytes4 c.args.s.sequence)) c.write8.ensures
