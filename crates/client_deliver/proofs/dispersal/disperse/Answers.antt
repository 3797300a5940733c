-- The digest list is made, then the blocks go out with it and the time. Assumes nothing.
use Prim.Native.Nat.{◌*◌, ◌≤◌}
use mathlib.Core.Path.{sym}
use lib.ListN.{length}
use lib.Seq.{length-take-le}
use Rattle.client_deliver.proofs.OwnBlocks.{list_front, block_room}
use native.Mathlib.Omega.{arith}
use Rattle.client_deliver.proofs.dispersal.disperse.Goals as goal

pub digests-requires : goal.digests-requires
digests-requires c =
    let B = c.requires.0 in (
      record { bounded = B; short = omega (arith, c.requires.1, B.size_high) },
      omega (arith, B.servers_high),
    )

pub slice_bounds-list-end : goal.slice_bounds-list-end
slice_bounds-list-end c = omega (arith, c.requires.0.servers_high, c.digests.auto.out)

pub slice_bounds-own_blocks-end : goal.slice_bounds-own_blocks-end
slice_bounds-own_blocks-end c =
    let n : 32 * c.args.d.params.n ≤ length c.digests.new.out = omega (arith, c.requires.0.servers_high, c.digests.auto.out) in
    sym (length-take-le _ _ n)

pub own_blocks-requires : goal.own_blocks-requires
own_blocks-requires c =
    let B = c.requires.0 in (
      record {
        bounded = B;
        whole = c.requires.1;
        list_is = list_front c.args.d.params c.args.value.now _ _ B (omega arith) c.digests.ensures;
      },
      block_room c.args.d.params _ _ _ c.requires.2,
    )

pub returns : goal.returns
returns c = c.own_blocks.ensures
