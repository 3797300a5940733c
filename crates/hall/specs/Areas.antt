-- How long the areas are in which a hall keeps its parties' bytes. These are definitions.
use Rattle.std.specs.Prelude.{ℕ, ◌*◌, ◌≡◌, List, length}
use Rattle.frame.specs.Chunks.{area_bytes, rows_bytes}
use Rattle.layout.specs.Servers.{server_size}

-- state areas, initial blocks and records for servers 1 to 10, with a place 0 for nobody
abbrev pub Servers : List ℕ → List ℕ → List ℕ → Type 0
Servers areas initials records = (length areas ≡ 11 * area_bytes) × (length initials ≡ 11 * 256) × (length records ≡ 11 * server_size)

-- rows areas and values for clients 1 to 8, with a place 0 for nobody
abbrev pub Clients : List ℕ → List ℕ → Type 0
Clients rows values = (length rows ≡ 9 * rows_bytes) × (length values ≡ 9 * 256)

abbrev pub Parties : List ℕ → List ℕ → List ℕ → List ℕ → List ℕ → Type 0
Parties areas initials records rows values =
    (length areas ≡ 11 * area_bytes) × (length initials ≡ 11 * 256) × (length records ≡ 11 * server_size) × Clients rows values
