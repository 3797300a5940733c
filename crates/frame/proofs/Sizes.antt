-- The sizes within the bounds of the parameters. Assumes nothing.
use Prim.Native.Nat.{◌+◌, ◌-◌, ◌/◌, ◌≤◌, ◌<◌}
use native.Mathlib.Omega.{arith}
use native.Mathlib.Nat.{div-le_of_le-mul, div-lt_iff_lt-mul}
use native.Mathlib.Decide.{dec_le}
use Rattle.blocks.specs.declared.Params.{Params}
use Rattle.blocks.specs.Code.{block_length}
use Rattle.frame.specs.Params.{width, listed, Bounded}

-- what chunks and frames have room for
pub record Small (g : Params) : Type 0 where
  pub list_room : listed g ≤ 320
  pub block_room : width g ≤ 256
  pub block_some : 1 ≤ width g

pub small : (g : Params) → Bounded g → Small g
unfolding width block_length
small g B = record {
  list_room = omega (arith, B.servers_high);
  block_room = div-le_of_le-mul g.k (omega (arith, B.blocks_low, B.size_high));
  block_some = go (dec_le 1 ((g.size + (g.k - 1)) / g.k));
}
  where
    go : Dec (1 ≤ (g.size + (g.k - 1)) / g.k) → 1 ≤ (g.size + (g.k - 1)) / g.k
    go (yes h) = h
    go (no h) = absurd (
        let z : (g.size + (g.k - 1)) / g.k < 1 = omega (arith, h) in
        let w = (div-lt_iff_lt-mul {x = g.size + (g.k - 1)} {y = 1} B.blocks_low).0 z in
        omega (arith, B.size_low, B.blocks_low, w)
        )
