-- The numbers of the k lowest, their blocks, and the value from these, by the laws of Regaining. Assumes nothing.
use mathlib.Core.Path.{refl}
use Rattle.group.proofs.Regaining.{few, total, front_room, front_length, collecting, back_room, back_length, back_is, regained}
use native.Mathlib.Omega.{arith}
use Rattle.group.proofs.decoding.regain.Goals as goal

pub overflow_mul-end : goal.overflow_mul-end
overflow_mul-end c =
    let h = total _ _ _ _ _ c.requires _ c.block_length-b.ensures in
    omega (arith, h)

pub slice_bounds-js-end : goal.slice_bounds-js-end
slice_bounds-js-end c = front_room _ _ _ _ _ c.requires _ _ c.choose.ensures refl

pub slice_bounds-collect-end : goal.slice_bounds-collect-end
slice_bounds-collect-end c = front_length _ _ _ _ _ c.requires _ _ c.choose.ensures refl

pub collect-requires : goal.collect-requires
collect-requires c = collecting _ _ _ _ _ c.requires _ _ c.choose.ensures refl _ c.block_length-b.ensures

pub slice_bounds-js-end-2 : goal.slice_bounds-js-end-2
slice_bounds-js-end-2 c = front_room _ _ _ _ _ c.requires _ _ c.choose.ensures refl

pub slice_bounds-decode_into-end : goal.slice_bounds-decode_into-end
slice_bounds-decode_into-end c = front_length _ _ _ _ _ c.requires _ _ c.choose.ensures refl

pub slice_bounds-w-end : goal.slice_bounds-w-end
slice_bounds-w-end c = back_room _ _ _ _ _ c.requires _ _ c.choose.ensures refl _ _ _ c.block_length-b.ensures c.collect.ensures refl

pub slice_bounds-decode_into-end-2 : goal.slice_bounds-decode_into-end-2
slice_bounds-decode_into-end-2 c = back_length _ _ _ _ _ c.requires _ _ c.choose.ensures refl _ _ _ c.block_length-b.ensures c.collect.ensures refl

pub decode_into-requires : goal.decode_into-requires
decode_into-requires c =
    let e = front_length _ _ _ _ _ c.requires _ _ c.choose.ensures refl in
    let f = few _ _ _ _ _ c.requires in
    let k = c.requires.bounded.blocks_low in
    (omega (arith, e, k), omega (arith, e, f), omega (arith, c.requires.whole, c.requires.bounded.size_high), back_is _ _ _ _ _ c.requires _ _ c.choose.ensures refl _ _ _ c.block_length-b.ensures c.collect.ensures refl)

pub returns : goal.returns
returns c = regained _ _ _ _ _ c.requires _ _ c.choose.ensures refl _ _ _ c.block_length-b.ensures c.collect.ensures refl _ c.decode_into.ensures
