-- Entries kept in a lent area: chunks of 576 bytes, a digest list at 0 and a block at 320 of each. Assumes nothing: these are definitions.
use Rattle.std.specs.Prelude.{ℕ, ◌+◌, ◌*◌, ◌-◌, Bool, true, false, List}
use Rattle.std.proofs.lemmas.List.Edits.{sets}
use Rattle.area.specs.Area.{part}
use Rattle.blocks.specs.declared.Params.{Params}
use Rattle.frame.specs.Params.{width, listed}
use Rattle.frame.specs.Messages.{Entry, entry}

abbrev pub chunk_bytes : ℕ
chunk_bytes = 576

-- where a chunk's block begins, and how long its digest list can be
abbrev pub list_bytes : ℕ
list_bytes = 320

-- where chunk p and its block begin
abbrev pub chunk_at : ℕ → ℕ
chunk_at p = chunk_bytes * p

abbrev pub block_place : ℕ → ℕ
block_place p = chunk_bytes * p + list_bytes

-- the entry in chunk p
unfoldable pub entry_at : Params → List ℕ → ℕ → Entry
entry_at g a p = entry (part a (chunk_at p) (listed g)) (part a (block_place p) (width g))

-- the area with an entry in chunk p; every other byte stays as it is
unfoldable pub store_entry : List ℕ → ℕ → Entry → List ℕ
store_entry a p e = sets (sets a (chunk_at p) e.digests) (block_place p) e.block

-- stored if the test holds
abbrev pub store_if : Bool → List ℕ → ℕ → Entry → List ℕ
store_if true a p e = store_entry a p e
store_if false a p e = a

-- ---- the state area of a server: 169 chunks

-- the chunks before those of client c's echoes, of its readies
abbrev pub echoes_from : ℕ → ℕ
echoes_from c = 21 * c - 20

abbrev pub readies_from : ℕ → ℕ
readies_from c = 21 * c - 10

-- the present value; of client c, the completed entry, and the echo and the ready of server j
abbrev pub present_at : ℕ
present_at = 0

abbrev pub complete_at : ℕ → ℕ
complete_at c = echoes_from c

abbrev pub echo_at : ℕ → ℕ → ℕ
echo_at c j = echoes_from c + j

abbrev pub ready_at : ℕ → ℕ → ℕ
ready_at c j = readies_from c + j

abbrev pub area_bytes : ℕ
area_bytes = 97344

-- ---- the rows area of a client: 40 chunks, four for each server

abbrev pub place_at : ℕ → ℕ → ℕ
place_at j i = 4 * j - 4 + i

abbrev pub rows_bytes : ℕ
rows_bytes = 23040
