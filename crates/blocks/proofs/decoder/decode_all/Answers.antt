-- The first k blocks give a value, and all blocks are compared with the blocks of that value. Assumes nothing.
use mathlib.Core.Path.{sym, ap, ◌∙◌}
use Prim.Native.Nat.{ℕ, ◌*◌}
use lib.ListN.{length}
use lib.Seq.{length-take-le}
use Rattle.blocks.specs.Code.{block_length}
use Rattle.blocks.proofs.Stripes.{block_small, product_small}
use Rattle.blocks.proofs.Candidate.{first_room, first_whole, first_value, first_length, first_agrees}
use native.Mathlib.Omega.{arith}
use Rattle.blocks.proofs.decoder.decode_all.Goals as goal

pub overflow_mul-end : goal.overflow_mul-end
overflow_mul-end c =
    let s = block_small (length c.args.value.now) c.args.k c.requires.0 in
    record { fits = omega (arith, product_small c.args.k c.block_length.result (omega arith) (omega arith)) }

pub slice_bounds-decode_into-end : goal.slice_bounds-decode_into-end
slice_bounds-decode_into-end c = sym (length-take-le c.args.k c.args.js.now c.requires.2)

pub slice_bounds-decode_into-end-2 : goal.slice_bounds-decode_into-end-2
slice_bounds-decode_into-end-2 c =
    sym (length-take-le _ c.args.w.now (first_room c.args.k c.args.js.now c.args.w.now c.args.value.now _ c.requires.0 c.requires.2 c.requires.5 c.block_length.ensures))

pub decode_into-requires : goal.decode_into-requires
decode_into-requires c =
    let n = length-take-le c.args.k c.args.js.now c.requires.2 in (
      omega arith,
      omega arith,
      c.requires.4,
      first_whole c.args.k c.args.js.now c.args.w.now c.args.value.now _ c.requires.0 c.requires.2 c.requires.5 c.block_length.ensures,
    )

pub blocks_stand-requires : goal.blocks_stand-requires
blocks_stand-requires c =
    let n = first_length c.args.k c.args.js.now c.args.w.now c.args.value.now _ c.requires.0 c.requires.2 c.requires.5 c.block_length.ensures _ c.decode_into.ensures in (
      c.requires.0,
      c.requires.1,
      omega arith,
      c.requires.3,
      c.requires.5 ∙ ap (λ (x : ℕ). length c.args.js.now * block_length x c.args.k) (sym n),
    )

pub returns : goal.returns
returns c = (
  first_agrees c.args.k c.args.js.now c.args.w.now c.args.value.now _ c.requires.0 c.requires.2 c.requires.5 c.block_length.ensures _ _
      c.decode_into.ensures c.blocks_stand.ensures,
  first_value c.args.k c.args.js.now c.args.w.now c.args.value.now _ c.requires.0 c.requires.2 c.requires.5 c.block_length.ensures _
      c.decode_into.ensures,
)
