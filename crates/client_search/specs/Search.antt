-- The search of the rows in the code's terms: a place, and what is there. What is found is `first_agreed` of the client's specification.
-- These are definitions.
use Rattle.std.specs.Prelude.{ℕ, ◌≤◌, ◌<◌, ◌≡◌, true, List, length, get_or}
use Rattle.std.proofs.Math.Option.{Option, none, some}
use Rattle.blocks.specs.declared.Params.{Params}
use Rattle.frame.specs.declared.Stamp.{Stamp}
use Rattle.frame.specs.Params.{Bounded}
use Rattle.frame.specs.Chunks.{entry_at, place_at, rows_bytes}
use Rattle.frame.specs.Frames.{body_at}
use Rattle.frame.specs.Outbox.{Room, first_place}
use Rattle.frame.specs.Stamps.{zero_stamp}
use Rattle.group.specs.Entries.{sent_list, flags}
use Rattle.client_rules.specs.declared.Row.{Row}
use Rattle.client_rules.specs.State.{no_row}
use Rattle.client_rules.specs.Rows.{Kept, used, places_from, agreed}
use Rattle.client_search.specs.declared.Hits.{Hits}
use Rattle.std.specs.Prelude as P

-- server j's row, in the order of its places
abbrev pub view : Params → List Row → List ℕ → ℕ → List Kept
view g rows a j = places_from g a j (get_or rows j no_row) 0 (used (get_or rows j no_row))

-- of what the rows have at a stamp, that with the digest list in chunk p
unfoldable pub holders_of : Params → List ℕ → Hits → ℕ → Hits
holders_of g a h p = record { on = flags (sent_list g h.on h.at a (entry_at g a p).digests) g.n; at = h.at }

-- what is at place i of server j's row
abbrev pub kept_at : Params → List Row → List ℕ → ℕ → ℕ → Kept
kept_at g rows a j i = record { stamp = get_or (get_or rows j no_row).stamps i zero_stamp; entry = entry_at g a (place_at j i) }

-- what is where the search stopped
abbrev pub standing : Params → List Row → List ℕ → P.Option (ℕ × ℕ) → Option Kept
standing g rows a P.None = none
standing g rows a (P.Some p) = some (kept_at g rows a p.0 p.1)

-- that place is one of the four of a server's row
abbrev pub Inside : P.Option (ℕ × ℕ) → Type 0
Inside P.None = Unit {0}
Inside (P.Some p) = (1 ≤ p.0) × (p.0 ≤ 10) × (p.1 < 4)

-- what the search asks: the rows area is whole
pub record Searching (g : Params) (area : ℕ) : Type 0 where
  pub bounded : Bounded g
  pub whole : rows_bytes ≤ area

-- what decoding asks: stamp x and the digest list in chunk p are in n - t rows, and the value has room
pub record Regaining (g : Params) (rows : List Row) (a : List ℕ) (x : Stamp) (p result : ℕ) : Type 0 where
  pub searching : Searching g (length a)
  pub chunk : p ≤ 39
  pub held : agreed g (view g rows a) (record { stamp = x; entry = entry_at g a p }) ≡ true
  pub value_room : g.size ≤ result

-- what the end of a read needs: what is at place i of server j's row is in n - t rows, the value has room, and a frame to each server
pub record Finishing (g : Params) (rows : List Row) (a : List ℕ) (j i result out to : ℕ) : Type 0 where
  pub searching : Searching g (length a)
  pub server_low : 1 ≤ j
  pub server_high : j ≤ 10
  pub place : i < 4
  pub held : agreed g (view g rows a) (kept_at g rows a j i) ≡ true
  pub value_room : g.size ≤ result
  pub room : Room first_place g.n body_at out to
