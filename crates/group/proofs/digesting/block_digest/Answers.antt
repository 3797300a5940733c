-- The first bytes of the buffer are the block. Assumes nothing.
use Prim.Native.Nat.{◌≤◌}
use mathlib.Core.Path.{sym}
use lib.ListN.{length, length-take}
use lib.Seq.{length-take-le}
use Rattle.group.proofs.Digests.{short_block, digest_law}
use native.Mathlib.Omega.{arith}
use Rattle.group.proofs.digesting.block_digest.Goals as goal

pub encode_block-requires : goal.encode_block-requires
encode_block-requires c =
    let h = short_block _ _ c.requires.0 c.requires.2 in
    (c.requires.0, c.requires.1, c.requires.2, omega (arith, h))

pub slice_bounds-block-end : goal.slice_bounds-block-end
slice_bounds-block-end c =
    let h = short_block _ _ c.requires.0 c.requires.2 in
    omega (arith, h, c.block_length-b.ensures, c.encode_block.auto.out)

pub slice_bounds-digest-end : goal.slice_bounds-digest-end
slice_bounds-digest-end c =
    let h = short_block _ _ c.requires.0 c.requires.2 in
    let n : c.block_length-b.result ≤ length c.encode_block.new.out = omega (arith, h, c.block_length-b.ensures, c.encode_block.auto.out) in
    sym (length-take-le _ _ n)

pub digest-requires : goal.digest-requires
digest-requires c =
    let h = short_block _ _ c.requires.0 c.requires.2 in
    simp length-take (omega (arith, h, c.block_length-b.ensures))

pub returns : goal.returns
returns c =
    digest_law _ _ _ _ _ _ _ c.requires.0 c.requires.2 (omega arith) c.block_length-b.ensures c.encode_block.ensures c.digest.ensures
