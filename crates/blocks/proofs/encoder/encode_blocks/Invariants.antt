-- After i turns blocks 1 to i are stored. Assumes nothing.
use mathlib.Core.Path.{◌≡◌}
use lib.Seq.{sets}
use Rattle.area.specs.Area.{joined}
use Rattle.blocks.specs.Code.{block_of}
use Rattle.blocks.proofs.encoder.encode_blocks.Given as goal

abbrev pub invariant-loop-i : goal.invariant-loop-i
invariant-loop-i l = l.out ≡ sets l.initial.out 0 (joined (block_of l.k l.v) 1 l.i)
