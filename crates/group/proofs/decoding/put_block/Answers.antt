-- The part of the area that is stored is the block. Assumes nothing.
use mathlib.Core.Path.{◌≡◌, ap, ◌∙◌}
use lib.ListN.{length}
use native.Mathlib.Omega.{arith}
use Rattle.frame.specs.Params.{width}
use Rattle.group.proofs.Lists.{stored_as}
use Rattle.group.proofs.Collecting.{length_block}
use Rattle.group.proofs.decoding.put_block.Goals as goal

pub put-requires : goal.put-requires
put-requires c =
    let n : length c.block_at-block.result.now ≡ width c.args.g =
    ap length c.block_at-block.ensures ∙ length_block _ _ _ c.requires.0 c.requires.1 in
    omega (arith, n, c.requires.2)

pub returns : goal.returns
returns c = stored_as _ _ _ _ _ c.block_at-block.ensures c.put.ensures
