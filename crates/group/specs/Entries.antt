-- The entries that servers sent, kept in the chunks of a lent area: for server j of 1 to 10 a flag at place j of one array and a chunk's number at
-- place j of another, both of 11 places. Assumes nothing: these are definitions.
use Rattle.std.specs.Prelude.{ℕ, ◌+◌, ◌≤◌, Bool, false, ◌&&◌, List, length, get_or, leb, eqb}
use Rattle.std.proofs.Math.Option.{Option}
use Rattle.area.specs.Area.{table, kept}
use Rattle.blocks.specs.declared.Params.{Params}
use Rattle.frame.specs.Messages.{Entry}
use Rattle.frame.specs.Chunks.{chunk_at, entry_at, chunk_bytes}
use Rattle.group_rules.specs.Coded.{has_list}

-- whether server j is flagged
unfoldable pub marked : List Bool → ℕ → Bool
marked on j = get_or on j false

-- the flags of the servers that sent the time T; server j's is at place j of ts
unfoldable pub timed : List Bool → List ℕ → ℕ → List Bool
timed on ts T = table 11 (λ j. marked on j && eqb (get_or ts j 0) T)

-- what server j sent
unfoldable pub entries : Params → List Bool → List ℕ → List ℕ → ℕ → Option Entry
entries g on at a j = kept (marked on j) (entry_at g a (get_or at j 0))

-- whether server j sent the digest list d
unfoldable pub sent_list : Params → List Bool → List ℕ → List ℕ → List ℕ → ℕ → Bool
sent_list g on at a d j = has_list (entries g on at a j) d

-- whether j is a server of 1 to n and passes a test
unfoldable pub passing : (ℕ → Bool) → ℕ → ℕ → Bool
passing p n j = leb 1 j && (leb j n && p j)

-- the flags of the servers that do
unfoldable pub flags : (ℕ → Bool) → ℕ → List Bool
flags p n = table 11 (passing p n)

-- the chunks of servers that lie one after the other: server j's is chunk p + j
unfoldable pub places_from : ℕ → List ℕ
places_from p = table 11 (λ j. p + j)

-- every chunk lies within the area
unfoldable pub Within : List ℕ → List ℕ → Type 0
Within at a = (j : ℕ) → chunk_at (get_or at j 0) + chunk_bytes ≤ length a
