-- By definition. Assumes nothing.
use mathlib.Core.Path.{refl}
use Rattle.blocks.specs.Code.{block_length}
use Rattle.blocks.proofs.bounds.block_length.Goals as goal

pub returns : goal.returns
unfolding block_length
returns c = refl
