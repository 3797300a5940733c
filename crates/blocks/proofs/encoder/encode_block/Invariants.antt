-- After r turns the first r bytes of the block are stored. Assumes nothing.
use mathlib.Core.Path.{◌≡◌}
use lib.Seq.{sets}
use Rattle.area.specs.Area.{table}
use Rattle.blocks.specs.Code.{block_byte}
use Rattle.blocks.proofs.encoder.encode_block.Given as goal

abbrev pub invariant-loop-r : goal.invariant-loop-r
invariant-loop-r l = l.out ≡ sets l.initial.out l.at (table l.r (block_byte l.k l.v l.j))
