-- The setups of the computed runs are sound, and their areas have their least lengths. Assumes nothing.
use Prim.Native.Nat.{ℕ, ◌≤◌}
use native.Mathlib.Omega.{arith}
use mathlib.Core.Bool.{Bool}
use mathlib.Core.Path.{◌≡◌}
use mathlib.Core.List.{List, ◌++◌}
use lib.ListN.{length, replicate, length-replicate, length-append}
use lib.Seq.{length-take-le}
use lib.Dec.{eqb}
use Rattle.quorum.specs.Quorum.{Faults}
use Rattle.area.specs.Area.{Bytes}
use Rattle.blocks.specs.declared.Params.{Params}
use Rattle.frame.specs.Params.{width, Bounded}
use Rattle.frame.specs.Chunks.{area_bytes, rows_bytes}
use Rattle.runs.specs.World.{Sound, DigestSize}
use Rattle.witness.specs.Toy.{toy, zeros, four, setup}
use Rattle.witness.proofs.Depicted.{Exact}

pub bounded : (k size : ℕ) → 1 ≤ k → k ≤ 2 → 1 ≤ size → size ≤ 256 → Bounded (four k size)
unfolding four
bounded k size lo hi few many = record {
  servers_low = omega arith;
  servers_high = omega arith;
  faults_low = omega arith;
  faults_high = omega arith;
  blocks_low = omega (arith, lo);
  blocks_high = omega (arith, hi);
  size_low = omega (arith, few);
  size_high = omega (arith, many);
}

pub exact : (H : List ℕ → List ℕ) (g : Params) (v : List ℕ) (i : ℕ) (faulty : ℕ → Bool) → Bounded g → Exact (setup H g v i faulty)
unfolding zeros setup
exact H g v i faulty B = record {
  bounded = B;
  state_long = λ j. length-replicate {A = ℕ} area_bytes 0;
  initial_long = λ j. length-replicate {A = ℕ} (width g) 0;
  rows_long = λ c. length-replicate {A = ℕ} rows_bytes 0;
}

pub sound : (H : List ℕ → List ℕ) (g : Params) (v : List ℕ) (i : ℕ) (faulty : ℕ → Bool) → Bounded g → Faults g.n g.t (λ j. eqb j i)
    → length v ≡ g.size → Bytes v → Sound (setup H g v i faulty)
unfolding setup
sound H g v i faulty B F size bytes =
    let X = exact H g v i faulty B in
    record {
      bounded = B;
      faults = F;
      initial_size = size;
      initial_bytes = bytes;
      state_room = λ j. omega (arith, X.state_long j);
      initial_room = λ j. omega (arith, X.initial_long j);
    }

pub toy_size : DigestSize toy
unfolding toy
toy_size b = length-take-le 32 (b ++ replicate 32 0) (rw (length-append b (replicate 32 0)) (omega arith))
