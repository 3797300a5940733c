-- The twelve cases of document 01, computed together. Assumes nothing.
use mathlib.Core.Path.{◌≡◌, refl}
use mathlib.Core.List.{map}
use lib.ListN.{length}
use Rattle.area.specs.Area.{pick, same, table, table_from, joined}
use Rattle.area.specs.Numbers.{bytes2, bytes4}
use Rattle.field.specs.Field.{◌⊕◌, reduction, xtime, shift_add, ◌⊗◌, power_of}
use Rattle.blocks.specs.Poly.{eval, plus, scale, with_root, vanishing, newton_step, through}
use Rattle.blocks.specs.Code.{block_length, padded, stripe, block_byte, block_of, row, value_of, blocks_of, candidate, agree, decoded_all}
use Rattle.frame.specs.Frames.{kind_of, body_bytes, header_bytes, frame_of, build}
use Rattle.frame.specs.Cases.{value, cases}

pub twelve : length cases ≡ 12
unfolding cases
twelve = refl

-- in every case the definitions give what document 01 states
pub as_stated : map (λ c. c.given) cases ≡ map (λ c. c.stated) cases
unfolding cases value block_of block_byte block_length padded stripe table table_from joined row value_of blocks_of candidate agree decoded_all pick same eval plus
    scale with_root vanishing newton_step through ◌⊕◌ reduction xtime shift_add ◌⊗◌ power_of kind_of body_bytes header_bytes frame_of build bytes2 bytes4
as_stated = refl
