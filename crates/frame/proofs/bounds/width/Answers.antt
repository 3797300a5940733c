use mathlib.Core.Path.{refl}
use Rattle.frame.proofs.Sizes.{small}
use Rattle.blocks.specs.Code.{block_length}
use Rattle.frame.specs.Params.{width}
use Rattle.frame.proofs.bounds.width.Goals as goal

pub returns : goal.returns
unfolding width block_length
returns c = let M = small c.args.g c.requires in (refl, M.block_some, M.block_room)
