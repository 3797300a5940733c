-- What the proofs below assume of a setup: that it is sound, and that digests have 32 bytes. Assumes nothing else.
use Prim.Native.Nat.{ℕ, ◌≤◌}
use mathlib.Core.Path.{◌≡◌}
use mathlib.Core.List.{List}
use lib.ListN.{length}
use Rattle.quorum.specs.Quorum.{Faults}
use Rattle.area.specs.Area.{Bytes}
use Rattle.frame.specs.Params.{width, Bounded}
use Rattle.frame.specs.Chunks.{area_bytes}
use Rattle.runs.specs.World.{Setup, Sound, DigestSize}

pub record Assumed (Z : Setup) : Type 0 where
  pub bounded : Bounded Z.g
  pub faults : Faults Z.g.n Z.g.t Z.faulty_server
  pub initial_size : length Z.initial_value ≡ Z.g.size
  pub initial_bytes : Bytes Z.initial_value
  pub digest_size : (b : List ℕ) → length (Z.H b) ≡ 32
  pub state_room : (j : ℕ) → area_bytes ≤ length (Z.state_areas j)
  pub initial_room : (j : ℕ) → width Z.g ≤ length (Z.initial_areas j)

pub assumed : (Z : Setup) → Sound Z → DigestSize Z.H → Assumed Z
assumed Z S D = record {
  bounded = S.bounded;
  faults = S.faults;
  initial_size = S.initial_size;
  initial_bytes = S.initial_bytes;
  digest_size = D;
  state_room = S.state_room;
  initial_room = S.initial_room;
}
