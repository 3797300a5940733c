-- After each turn, what is left of the blocks gives the same answer as all of them. Assumes nothing.
use Prim.Native.Nat.{◌*◌}
use mathlib.Core.Path.{◌≡◌}
use lib.ListN.{length, drop}
use Rattle.area.specs.Area.{same}
use Rattle.blocks.specs.Code.{block_length, blocks_of}
use Rattle.blocks.proofs.encoder.blocks_stand.Given as goal

abbrev pub invariant-loop-i : goal.invariant-loop-i
invariant-loop-i l =
    same (blocks_of l.k l.v l.js) l.w ≡ same (blocks_of l.k l.v (drop l.i l.js)) (drop (l.i * block_length (length l.v) l.k) l.w)
