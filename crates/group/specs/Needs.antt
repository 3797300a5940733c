-- What the functions of this crate ask of their callers. Assumes nothing: these are definitions.
use Rattle.std.specs.Prelude.{ℕ, ◌*◌, ◌≤◌, ◌≡◌, Bool, List, length, get_or}
use Rattle.quorum.specs.Quorum.{count}
use Rattle.blocks.specs.declared.Params.{Params}
use Rattle.frame.specs.Params.{width, Bounded}
use Rattle.group.specs.Entries.{marked, Within}

-- entries are compared with a list
pub record Comparing (g : Params) (at a : List ℕ) : Type 0 where
  pub bounded : Bounded g
  pub within : Within at a

-- servers 1 to 10, whose blocks of b bytes go to an area of out bytes
pub record Collecting (g : Params) (js at a : List ℕ) (b out : ℕ) : Type 0 where
  pub bounded : Bounded g
  pub numbers : (i : ℕ) → get_or js i 0 ≤ 10
  pub within : Within at a
  pub width_is : b ≡ width g
  pub few : length js ≤ 8
  pub room : length js * b ≤ out

-- k servers are flagged, and the value fills an area
pub record Decoding (g : Params) (on : List Bool) (at a : List ℕ) (out : ℕ) : Type 0 where
  pub bounded : Bounded g
  pub within : Within at a
  pub enough : g.k ≤ count (marked on) g.n
  pub whole : out ≡ g.size

-- a value is encoded
pub record Encoding (g : Params) (v : List ℕ) : Type 0 where
  pub bounded : Bounded g
  pub short : length v ≤ 256

-- a value of its full length
pub record Valued (g : Params) (v : List ℕ) : Type 0 where
  pub bounded : Bounded g
  pub whole : length v ≡ g.size
