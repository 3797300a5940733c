-- A run, as a list of calls, latest first: clients 1 and 2 write at the same time, while client 3 reads and is told of both writes. Server 4 is false
-- and lies: to client 3 about a value that nobody wrote, to client 2 about its time, to server 2 about client 2's blocks and client 1's time, to server 1
-- with a block that does not match its digest. Calls are refused. The read ends with the value of the write whose stamp is larger. k = 2. These are
-- definitions.
use Rattle.std.specs.Prelude.{ℕ, true, false, List, [], ◌∷◌, eqb}
use Rattle.std.proofs.Math.Option.{some}
use Rattle.area.specs.Area.{pick}
use Rattle.area.specs.Numbers.{bytes8}
use Rattle.blocks.specs.declared.Params.{Params}
use Rattle.frame.specs.declared.Stamp.{Stamp}
use Rattle.frame.specs.declared.Party.TheVariants as P
use Rattle.frame.specs.Stamps.{zero_stamp}
use Rattle.frame.specs.Messages.{Entry, entry, Offer, offer, Stage, send, echo, ready, message, get_stamp, stamp_is, block_is, ask_read, value_is}
use Rattle.frame.specs.Frames.{frame_of, build}
use Rattle.group_rules.specs.Coded.{entry_of, digests_of}
use Rattle.server_rules.specs.Steps.{Write}
use Rattle.client_rules.specs.Rows.{Found}
use Rattle.runs.specs.World.{Setup, Sound, Call, to_server}
use Rattle.runs.specs.Admissible.{Admissible}
use Rattle.runs.specs.Events.{At, Accepts, CompletesRead}
use Rattle.runs.specs.Demand.{Operation, Stands, Demand3}
use Rattle.witness.specs.Toy.{toy, enormous, four, setup, hand_server, hand_client, start_read, start_write}
use Rattle.witness.specs.Refusals.{Refuses}

unfoldable pub g : Params
g = four 2 2

unfoldable pub initial : List ℕ
initial = 0 ∷ 0 ∷ []

-- what client c, 1 or 2, writes, and what nobody does
unfoldable pub value : ℕ → List ℕ
value c = pick (eqb c 1) (1 ∷ 2 ∷ []) (3 ∷ 4 ∷ [])

unfoldable pub nobodys : List ℕ
nobodys = 8 ∷ 8 ∷ []

-- no client is false
unfoldable pub Z : Setup
Z = setup toy g initial 4 (λ c. false)

-- the largest time that counts at client c: server 4 tells client 2 of an enormous one, which nobody else reports
unfoldable pub largest : ℕ → ℕ
largest c = 0

unfoldable pub stamp : ℕ → Stamp
stamp c = pick (eqb c 1) (record { time = 1; writer = 1; sequence = 1 }) (record { time = 1; writer = 2; sequence = 1 })

-- what server j gets of a value
unfoldable pub entry_for : List ℕ → ℕ → Entry
entry_for v j = entry_of toy g v j

-- what server j says of client c's write
unfoldable pub offer_for : ℕ → ℕ → Offer
offer_for c j = offer (largest c) (entry_for (value c) j)

-- ---- frames of client c's write 1

unfoldable pub stamp_asked : ℕ → ℕ → Call
stamp_asked c i = hand_server g i (P.Client c) (message c 1 get_stamp)

unfoldable pub stamp_from : ℕ → ℕ → ℕ → Call
stamp_from c j T = hand_client g c (P.Server j) (message c 1 (stamp_is T))

unfoldable pub block_to : ℕ → ℕ → Call
block_to c i = hand_server g i (P.Client c) (message c 1 (block_is send (offer_for c i)))

-- server j's echo or ready to server i
unfoldable pub block : Stage → ℕ → ℕ → ℕ → Call
block z c j i = hand_server g i (P.Server j) (message c 1 (block_is z (offer_for c j)))

-- ---- frames of client 3's read 1

unfoldable pub read_asked : ℕ → Call
read_asked i = hand_server g i (P.Client 3) (message 3 1 ask_read)

unfoldable pub initial_from : ℕ → Call
initial_from j = hand_client g 3 (P.Server j) (message 3 1 (value_is zero_stamp (entry_for initial j)))

-- server j's value of client c's write
unfoldable pub value_from : ℕ → ℕ → Call
value_from c j = hand_client g 3 (P.Server j) (message 3 1 (value_is (stamp c) (entry_for (value c) j)))

-- ---- lies of server 4 that are taken

unfoldable pub false_value : Call
false_value = hand_client g 3 (P.Server 4) (message 3 1 (value_is (record { time = 9; writer = 1; sequence = 1 }) (entry_for nobodys 4)))

unfoldable pub false_echo : Call
false_echo = hand_server g 2 (P.Server 4) (message 2 1 (block_is echo (offer (largest 2) (entry_for nobodys 4))))

unfoldable pub false_time : Call
false_time = hand_server g 2 (P.Server 4) (message 1 1 (block_is echo (offer 3 (entry_for (value 1) 4))))

-- ---- calls that are refused

-- no frame, named as honest client 1's
unfoldable pub no_frame : Call
no_frame = to_server 1 (P.Client 1) (1 ∷ 2 ∷ 3 ∷ []) [] []

-- a time alone, of the retired kind 6
unfoldable pub time_alone : Call
time_alone = to_server 1 (P.Client 1) (frame_of 6 1 1 (bytes8 0)) [] []

-- server 4's echo with a block that does not match its digest
unfoldable pub false_block : Call
false_block = hand_server g 1 (P.Server 4) (message 1 1 (block_is echo (offer (largest 1) (entry (digests_of toy g (value 1)) (99 ∷ [])))))

-- client 2's block, with no room for what goes out
unfoldable pub no_room_hand : Call
no_room_hand = to_server 2 (P.Client 2) (build (message 2 1 (block_is send (offer_for 2 2)))) [] []

-- ---- the run, each part latest first

-- Client 3 begins to read; servers 1 and 2 answer with the initial value, server 4 with nobody's.
unfoldable pub opening : List Call
opening = false_value ∷ initial_from 2 ∷ initial_from 1 ∷ read_asked 2 ∷ read_asked 1 ∷ start_read g 3 ∷ []

-- Clients 1 and 2 begin to write; three stamps come to each, to client 2 a fourth, since server 4's does not count; and they send blocks with the times.
unfoldable pub asking : List Call
asking =
    stamp_from 2 3 0 ∷ stamp_from 2 4 enormous ∷ stamp_from 2 2 0 ∷ stamp_from 2 1 0 ∷ stamp_from 1 4 0 ∷ stamp_from 1 2 0 ∷ stamp_from 1 1 0
    ∷ stamp_asked 2 3 ∷ stamp_asked 2 2 ∷ stamp_asked 2 1 ∷ stamp_asked 1 2 ∷ stamp_asked 1 1
    ∷ start_write g 2 (value 2) ∷ start_write g 1 (value 1) ∷ opening

-- Six calls are refused.
unfoldable pub refused : List Call
refused = no_room_hand ∷ false_block ∷ time_alone ∷ no_frame ∷ start_write g 1 (value 2) ∷ read_asked 1 ∷ asking

-- Client c's write: servers 1 and 2 echo, and send readies.
unfoldable pub rounds : ℕ → List Call → List Call
rounds c ks =
    block ready c 1 2 ∷ block ready c 4 2
    ∷ block echo c 2 1 ∷ block echo c 1 1 ∷ block echo c 4 1
    ∷ block_to c 2 ∷ block_to c 1 ∷ ks

unfoldable pub spread : List Call
spread = rounds 2 (false_echo ∷ rounds 1 (false_time ∷ refused))

-- up to the call in which server 1 accepts client 2's write,
unfoldable pub first : List Call
first = block ready 2 1 1 ∷ block ready 2 4 1 ∷ spread

-- and then client 1's, whose stamp is smaller.
unfoldable pub second : List Call
second = block ready 1 1 1 ∷ block ready 1 4 1 ∷ block ready 2 2 1 ∷ first

-- Server 2 accepts client 1's write before client 2's. Client 3 is told of both by both.
unfoldable pub told : List Call
told = value_from 2 2 ∷ value_from 1 1 ∷ value_from 2 1 ∷ value_from 1 2 ∷ block ready 2 2 2 ∷ block ready 1 2 2 ∷ block ready 1 2 1 ∷ second

-- Server 4's value of client 2's write ends the read.
unfoldable pub calls : List Call
calls = value_from 2 4 ∷ told

-- ---- what happens

-- client c's write, as server 1 accepts it
unfoldable pub write : ℕ → Write
write c = record { client = c; sequence = 1; time = largest c; entry = entry_for (value c) 1 }

-- what the read finds
unfoldable pub found : Found
found = record { stamp = stamp 2; digests = digests_of toy g (value 2); bytes = some (value 2) }

-- the operations, as the row of demand 3 has them
unfoldable pub writing : ℕ → Operation
writing c = record { reading = false; client = c; sequence = 1; stamp = stamp c }

unfoldable pub reading : Operation
reading = record { reading = true; client = 3; sequence = 1; stamp = stamp 2 }

-- ---- what is shown

pub record Shown : Type 0 where
  -- the theorem speaks of this run
  pub sound : Sound Z
  pub admissible : Admissible Z calls
  -- six calls are refused: a read asked again (12), a write while one is open (15), what is no frame (4), a retired kind (6), a block against its
  -- digest (14), no room (10)
  pub stale : At (Refuses Z 12) calls 20
  pub busy : At (Refuses Z 15) calls 21
  pub framing : At (Refuses Z 4) calls 22
  pub kind : At (Refuses Z 6) calls 23
  pub digest : At (Refuses Z 14) calls 24
  pub room : At (Refuses Z 10) calls 25
  -- server 1 accepts client 2's write, then client 1's, and the read ends with client 2's
  pub larger : At (Accepts Z 1 (write 2)) calls 44
  pub smaller : At (Accepts Z 1 (write 1)) calls 47
  pub completes : At (CompletesRead Z 3 1 found) calls 54
  -- in the row client 1's write is before client 2's, and the read after both
  pub in_order_lem : (D : Demand3 Z calls) → Stands D.row (writing 1) (writing 2) × Stands D.row (writing 2) reading
