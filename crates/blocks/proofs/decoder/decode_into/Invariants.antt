-- After r turns the first r stripes are stored. Assumes nothing.
use mathlib.Core.Path.{◌≡◌}
use lib.ListN.{length, take}
use lib.Seq.{sets}
use Rattle.area.specs.Area.{joined}
use Rattle.blocks.proofs.Values.{stripes}
use Rattle.blocks.proofs.decoder.decode_into.Given as goal

abbrev pub invariant-loop-r : goal.invariant-loop-r
invariant-loop-r l = l.value ≡ sets l.initial.value 0 (take (length l.initial.value) (joined (stripes l.js (length l.initial.value) l.w) 0 l.r))
