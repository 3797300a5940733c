-- A run, as a list of calls, latest first: client 1 writes 01 02 03, servers 1 and 2 accept it, the write ends, and client 2 reads it. k = 2. Server 4 is false
-- and says what an honest server would say; server 3 hears nothing. These are definitions.
use Rattle.std.specs.Prelude.{ℕ, true, false, List, [], ◌∷◌}
use Rattle.std.proofs.Math.Option.{some}
use Rattle.blocks.specs.declared.Params.{Params}
use Rattle.frame.specs.declared.Stamp.{Stamp}
use Rattle.frame.specs.declared.Party.TheVariants as P
use Rattle.frame.specs.Messages.{Entry, offer, Stage, send, echo, ready, message, get_stamp, stamp_is, block_is, ack, ask_read, value_is}
use Rattle.group_rules.specs.Coded.{entry_of, digests_of}
use Rattle.server_rules.specs.Steps.{Write}
use Rattle.client_rules.specs.Rows.{Found}
use Rattle.runs.specs.World.{Setup, Sound, Call}
use Rattle.runs.specs.Admissible.{Admissible}
use Rattle.runs.specs.Events.{At, Accepts, CompletesRead, EndsWrite, OpensRead, OpensWrite}
use Rattle.runs.specs.Demand.{Operation, Stands, Demand3}
use Rattle.witness.specs.Toy.{toy, four, setup, hand_server, hand_client, start_read, start_write}

unfoldable pub g : Params
g = four 2 3

-- the initial value, and the value written
unfoldable pub initial : List ℕ
initial = 0 ∷ 0 ∷ 0 ∷ []

unfoldable pub value : List ℕ
value = 1 ∷ 2 ∷ 3 ∷ []

-- no client is false
unfoldable pub Z : Setup
Z = setup toy g initial 4 (λ c. false)

-- what server j gets of the value; the write's stamp: the largest time is 0
unfoldable pub entry_for : ℕ → Entry
entry_for j = entry_of toy g value j

unfoldable pub stamp : Stamp
stamp = record { time = 1; writer = 1; sequence = 1 }

-- ---- frames of client 1's write 1

-- server i is asked for its stamp, and client 1 gets server j's
unfoldable pub stamp_asked : ℕ → Call
stamp_asked i = hand_server g i (P.Client 1) (message 1 1 get_stamp)

unfoldable pub stamp_from : ℕ → Call
stamp_from j = hand_client g 1 (P.Server j) (message 1 1 (stamp_is 0))

-- client 1's block to server i, with the time
unfoldable pub block_to : ℕ → Call
block_to i = hand_server g i (P.Client 1) (message 1 1 (block_is send (offer 0 (entry_for i))))

-- server j's echo or ready to server i
unfoldable pub block : Stage → ℕ → ℕ → Call
block z j i = hand_server g i (P.Server j) (message 1 1 (block_is z (offer 0 (entry_for j))))

unfoldable pub ack_from : ℕ → Call
ack_from j = hand_client g 1 (P.Server j) (message 1 1 ack)

-- ---- frames of client 2's read 1

unfoldable pub read_asked : ℕ → Call
read_asked i = hand_server g i (P.Client 2) (message 2 1 ask_read)

unfoldable pub value_from : ℕ → Call
value_from j = hand_client g 2 (P.Server j) (message 2 1 (value_is stamp (entry_for j)))

-- ---- the run, each part latest first

-- Client 1 begins to write; three stamps come, and it sends blocks with the time.
unfoldable pub asking : List Call
asking = stamp_from 4 ∷ stamp_from 2 ∷ stamp_from 1 ∷ stamp_asked 2 ∷ stamp_asked 1 ∷ start_write g 1 value ∷ []

-- Servers 1 and 2 echo their blocks. Server 1 hears three echoes and sends a ready; server 2 hears two readies and sends one.
unfoldable pub spread : List Call
spread =
    block ready 1 2 ∷ block ready 4 2
    ∷ block echo 2 1 ∷ block echo 1 1 ∷ block echo 4 1
    ∷ block_to 2 ∷ block_to 1 ∷ asking

-- Server 2 hears three readies and accepts, then server 1; two acks come.
unfoldable pub accepting : List Call
accepting =
    ack_from 2 ∷ ack_from 1
    ∷ block ready 2 1 ∷ block ready 1 1 ∷ block ready 4 1
    ∷ block ready 2 2 ∷ spread

-- The third ack ends the write. Client 2 begins to read; two values come.
unfoldable pub reading : List Call
reading = value_from 2 ∷ value_from 1 ∷ read_asked 2 ∷ read_asked 1 ∷ start_read g 2 ∷ ack_from 4 ∷ accepting

-- The third value ends the read.
unfoldable pub calls : List Call
calls = value_from 4 ∷ reading

-- ---- what happens

-- the write that is accepted at server i
unfoldable pub write_at : ℕ → Write
write_at i = record { client = 1; sequence = 1; time = 0; entry = entry_for i }

-- what the read finds
unfoldable pub found : Found
found = record { stamp = stamp; digests = digests_of toy g value; bytes = some value }

-- the two operations, as the row of demand 3 has them
unfoldable pub write : Operation
write = record { reading = false; client = 1; sequence = 1; stamp = stamp }

unfoldable pub read : Operation
read = record { reading = true; client = 2; sequence = 1; stamp = stamp }

-- ---- what is shown

pub record Shown : Type 0 where
  -- the theorem speaks of this run
  pub sound : Sound Z
  pub admissible : Admissible Z calls
  -- client 1, which is honest, begins its write 1 of the value; server 2, which is honest, accepts it; it ends
  pub writes : At (OpensWrite Z 1 1 value) calls 0
  pub accepts : At (Accepts Z 2 (write_at 2)) calls 13
  pub ends : At (EndsWrite Z 1 1) calls 19
  -- then client 2's read 1 begins, and it returns what was written, with the write's stamp
  pub opens : At (OpensRead Z 2 1) calls 20
  pub completes : At (CompletesRead Z 2 1 found) calls 25
  -- the write comes before the read in the row
  pub in_order_lem : (D : Demand3 Z calls) → Stands D.row write read
