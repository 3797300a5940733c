-- The block is stored in the front of a buffer and compared. Assumes nothing.
use mathlib.Core.Path.{refl}
use lib.ListN.{length}
use Rattle.blocks.proofs.Stripes.{block_small}
use Rattle.blocks.proofs.Standing.{buffer_room, buffer_length, stands}
use native.Mathlib.Omega.{arith}
use Rattle.blocks.proofs.encoder.block_stands.Goals as goal

pub encode_block-requires : goal.encode_block-requires
encode_block-requires c =
    let p = c.requires in
    let s = block_small (length c.args.v.now) c.args.k p.0 in
    (p.0, p.1, p.2, omega arith)

pub slice_bounds-block-end : goal.slice_bounds-block-end
slice_bounds-block-end c = buffer_room _ _ _ _ _ _ c.requires.0 c.requires.2 c.block_length-b.ensures refl c.encode_block.ensures

pub slice_bounds-equal_at-end : goal.slice_bounds-equal_at-end
slice_bounds-equal_at-end c = buffer_length _ _ _ _ _ _ c.requires.0 c.requires.2 c.block_length-b.ensures refl c.encode_block.ensures

pub equal_at-requires : goal.equal_at-requires
equal_at-requires c =
    let n = buffer_length _ _ _ _ _ _ c.requires.0 c.requires.2 c.block_length-b.ensures refl c.encode_block.ensures in
    omega (arith, c.block_length-b.ensures, c.requires.3)

pub returns : goal.returns
returns c = stands _ _ _ _ _ _ c.requires.0 c.requires.2 c.block_length-b.ensures refl c.encode_block.ensures c.args.w.now c.args.at _ c.equal_at.ensures
