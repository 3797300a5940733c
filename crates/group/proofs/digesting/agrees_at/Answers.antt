-- The block is encoded into a buffer, and compared with the list and with the server's. Assumes nothing.
use mathlib.Core.Bool.{not}
use mathlib.Core.Path.{ap, refl}
use Rattle.blocks.proofs.Standing.{buffer_room, buffer_front, buffer_length}
use Rattle.group.proofs.Digests.{short_block}
use Rattle.group.proofs.Comparing.{no_fit, fit_unflagged, fit_flagged}
use native.Mathlib.Omega.{arith}
use Rattle.group.proofs.digesting.agrees_at.Goals as goal

pub encode_block-requires : goal.encode_block-requires
encode_block-requires c =
    let p = c.requires in
    let h = short_block _ _ p.0 p.2 in
    (p.0, p.1, p.2, omega (arith, h))

pub slice_bounds-block-end : goal.slice_bounds-block-end
slice_bounds-block-end c = buffer_room _ _ _ _ _ _ c.requires.0 c.requires.2 c.block_length-b.ensures refl c.encode_block.ensures

pub slice_bounds-block_fits-end : goal.slice_bounds-block_fits-end
slice_bounds-block_fits-end c = buffer_length _ _ _ _ _ _ c.requires.0 c.requires.2 c.block_length-b.ensures refl c.encode_block.ensures

pub block_fits-requires : goal.block_fits-requires
block_fits-requires c =
    let p = c.requires in
    let h = short_block _ _ p.0 p.2 in
    let n = buffer_length _ _ _ _ _ _ p.0 p.2 c.block_length-b.ensures refl c.encode_block.ensures in
    (p.3, p.4, omega (arith, n, h, c.block_length-b.ensures))

pub returns-then-not-block_fits : goal.returns-then-not-block_fits
returns-then-not-block_fits c =
    let f = buffer_front _ _ _ _ _ _ c.requires.0 c.requires.2 c.block_length-b.ensures refl c.encode_block.ensures in
    no_fit c.args.mark c.args.own.now _ _ c.args.list.now c.args.j _ f c.block_fits.ensures (ap not c.if-not-block_fits.true)

pub returns-then-not-mark : goal.returns-then-not-mark
returns-then-not-mark c =
    let f = buffer_front _ _ _ _ _ _ c.requires.0 c.requires.2 c.block_length-b.ensures refl c.encode_block.ensures in
    fit_unflagged c.args.mark c.args.own.now _ _ c.args.list.now c.args.j _ f c.block_fits.ensures (ap not c.if-not-block_fits.false) (ap not c.if-not-mark.true)

pub slice_bounds-block-end-2 : goal.slice_bounds-block-end-2
slice_bounds-block-end-2 c = buffer_room _ _ _ _ _ _ c.requires.0 c.requires.2 c.block_length-b.ensures refl c.encode_block.ensures

pub slice_bounds-equal-end : goal.slice_bounds-equal-end
slice_bounds-equal-end c = buffer_length _ _ _ _ _ _ c.requires.0 c.requires.2 c.block_length-b.ensures refl c.encode_block.ensures

pub returns : goal.returns
returns c =
    let f = buffer_front _ _ _ _ _ _ c.requires.0 c.requires.2 c.block_length-b.ensures refl c.encode_block.ensures in
    fit_flagged c.args.mark c.args.own.now _ _ c.args.list.now c.args.j _ f c.block_fits.ensures _ (ap not c.if-not-block_fits.false) (ap not c.if-not-mark.false) c.equal.ensures
