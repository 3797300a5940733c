-- The buffer's first bytes are server j's block; it goes out with the digest list. Assumes nothing.
use Prim.Native.Nat.{◌+◌, ◌≤◌}
use mathlib.Core.Path.{◌≡◌, sym, ap}
use lib.ListN.{length, take}
use lib.Seq.{length-take-le}
use Rattle.frame.specs.Params.{entry_length, width}
use Rattle.frame.proofs.Sizes.{small}
use Rattle.frame.proofs.Writing.{room_of}
use Rattle.group.proofs.Digests.{length_digests}
use Rattle.client_deliver.proofs.OwnBlocks.{length_own_block, own_block, own_sent}
use native.Mathlib.Omega.{arith}
use Rattle.client_deliver.proofs.dispersal.send_own.Goals as goal

pub encode_block-requires : goal.encode_block-requires
unfolding width
encode_block-requires c =
    let D = c.requires.0 in
    let B = D.bounded in
    let M = small c.args.d.params B in
    (B.blocks_low, omega (arith, B.blocks_high, B.faults_low, B.servers_high), omega (arith, D.whole, B.size_high), rw D.whole (omega (arith, M.block_room)))

pub slice_bounds-block-end : goal.slice_bounds-block-end
slice_bounds-block-end c = omega (arith, c.width-b.ensures.2, c.encode_block.auto.out)

pub slice_bounds-send_block-end : goal.slice_bounds-send_block-end
slice_bounds-send_block-end c =
    let n : c.width-b.result ≤ length c.encode_block.new.out = omega (arith, c.width-b.ensures.2, c.encode_block.auto.out) in
    sym (length-take-le _ _ n)

pub send_block-requires : goal.send_block-requires
send_block-requires c =
    let a = c.args in
    let D = c.requires.0 in
    let b = own_block a.d.params a.value.now D.whole _ _ a.j _ D.bounded c.width-b.ensures.0 (omega arith) c.encode_block.ensures in
    let e : 17 + entry_length a.d.params ≡ 17 + (length a.list.now + length (take c.width-b.result c.encode_block.new.out)) =
    omega (arith, ap length D.list_is, length_digests a.d.params a.value.now, ap length b, length_own_block a.d.params a.value.now D.whole a.j) in
    room_of _ _ _ _ _ _ e c.requires.1

pub returns : goal.returns
returns c =
    let a = c.args in
    let D = c.requires.0 in
    let b = own_block a.d.params a.value.now D.whole _ _ a.j _ D.bounded c.width-b.ensures.0 (omega arith) c.encode_block.ensures in
    own_sent a.d.params a.value.now D.whole _ _ _ _ _ _ D.list_is b c.send_block.ensures
