-- After j turns the first j digests are stored. Assumes nothing.
use mathlib.Core.Path.{◌≡◌}
use lib.ListN.{length}
use lib.Seq.{sets}
use Rattle.area.specs.Area.{joined}
use Rattle.blocks.specs.Code.{block_of}
use Rattle.sha256.specs.Hash.{digest_of}
use Rattle.group.proofs.digesting.digests.Given as goal

abbrev pub invariant-loop-j : goal.invariant-loop-j
invariant-loop-j l = (l.out ≡ sets l.initial.out l.at (joined (λ i. digest_of (block_of l.k l.value i)) 1 l.j)) × (length l.out ≡ length l.initial.out)
