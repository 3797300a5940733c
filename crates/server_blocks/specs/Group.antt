-- The value that client c's kept entries give, by the votes v for a time and a digest list. These are definitions.
use Rattle.std.specs.Prelude.{ℕ, ◌-◌, ◌≤◌, ◌<◌, ◌≡◌, Bool, ◌&&◌, List, leb}
use Rattle.area.specs.Area.{pick, same}
use Rattle.blocks.specs.declared.Params.{Params}
use Rattle.quorum.specs.Quorum.{count}
use Rattle.frame.specs.Params.{Bounded, quota}
use Rattle.frame.specs.Chunks.{area_bytes, echoes_from, readies_from}
use Rattle.group_rules.specs.Coded.{digests_of}
use Rattle.group.specs.Entries.{marked, places_from}
use Rattle.group.specs.Choice.{value_from, all_of}
use Rattle.server_blocks.specs.declared.Voters.{Voters}
use Rattle.server_blocks.specs.declared.Group.{Group}

-- "readies if there are q, else echoes"
unfoldable pub group_of : Params → Voters → ℕ → Group
group_of g v c =
    pick (leb (quota g) v.readied) (record { on = v.readies; at = places_from (readies_from c) }) (record { on = v.echoes; at = places_from (echoes_from c) })

-- the value that the k lowest of them give
unfoldable pub group_value : Params → Voters → ℕ → List ℕ → List ℕ
group_value g v c a = value_from g (group_of g v c).on (group_of g v c).at a

-- all have its blocks; "encode afresh with zero padding and compare all n digests": H is the digest, d the list
unfoldable pub group_equal : (List ℕ → List ℕ) → Params → Voters → ℕ → List ℕ → List ℕ → Bool
group_equal H g v c a d = all_of g (group_of g v c).on (group_of g v c).at a (group_value g v c a) && same (digests_of H g (group_value g v c a)) d

-- the entries of client c lie in a state area of this length
pub record Stored (g : Params) (c area : ℕ) : Type 0 where
  pub bounded : Bounded g
  pub client_low : 1 ≤ c
  pub client_high : c ≤ 8
  pub whole : area_bytes ≤ area

-- and one of the two groups is large enough
pub record Regaining (g : Params) (v : Voters) (c area : ℕ) : Type 0 where
  pub stored : Stored g c area
  pub number : v.readied ≡ count (marked v.readies) g.n
  pub enough : v.readied < quota g → g.k ≤ count (marked v.echoes) g.n
