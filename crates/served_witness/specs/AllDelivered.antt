-- A run, as a list of calls, latest first, in which all frames between honest parties are handed in: client 1 writes 01 02, and client 2 begins to read before
-- the write is accepted, is told of it, and reads it. Server 4 is false and silent. One frame is at first answered 10, for want of room, and offered again. And
-- the same run up to where two acks have come: the write is open, and no ready has come to server 3. k = 2. These are definitions.
use Rattle.std.specs.Prelude.{ℕ, true, ◌≡◌, List, [], ◌∷◌, leb}
use Rattle.std.proofs.Math.Option.{some}
use Rattle.blocks.specs.declared.Params.{Params}
use Rattle.frame.specs.declared.Stamp.{Stamp}
use Rattle.frame.specs.declared.Party.{Party}
use Rattle.frame.specs.declared.Party.TheVariants as P
use Rattle.frame.specs.Stamps.{zero_stamp}
use Rattle.frame.specs.Messages.{Entry, offer, Stage, send, echo, ready, Message, message, get_stamp, stamp_is, block_is, ack, ask_read, read_complete, value_is}
use Rattle.frame.specs.Messages.{report}
use Rattle.frame.specs.Frames.{build}
use Rattle.group_rules.specs.Coded.{entry_of, digests_of}
use Rattle.client_rules.specs.declared.Phase.TheVariants as F
use Rattle.client_rules.specs.Rows.{Found}
use Rattle.runs.specs.World.{Setup, Sound, Call, to_server, run}
use Rattle.runs.specs.Admissible.{Sent, Admissible}
use Rattle.runs.specs.Events.{At, CompletesRead, EndsWrite, OpensRead, OpensWrite}
use Rattle.served.specs.Finished.{HandedIn, Finished, Delivered, Served}
use Rattle.witness.specs.Toy.{toy, four, setup, hand_server, hand_client, start_read, start_write}
use Rattle.witness.specs.Refusals.{Refuses}

unfoldable pub g : Params
g = four 2 2

unfoldable pub initial : List ℕ
initial = 0 ∷ 0 ∷ []

unfoldable pub value : List ℕ
value = 1 ∷ 2 ∷ []

-- clients 1 and 2 are honest
unfoldable pub Z : Setup
Z = setup toy g initial 4 (λ c. leb 3 c)

-- the write's stamp: the largest time is 0
unfoldable pub stamp : Stamp
stamp = record { time = 1; writer = 1; sequence = 1 }

-- what server j gets of a value
unfoldable pub entry_for : List ℕ → ℕ → Entry
entry_for v j = entry_of toy g v j

-- ---- frames of client 1's write 1

unfoldable pub stamp_asked : ℕ → Call
stamp_asked i = hand_server g i (P.Client 1) (message 1 1 get_stamp)

unfoldable pub stamp_from : ℕ → Call
stamp_from j = hand_client g 1 (P.Server j) (message 1 1 (stamp_is 0))

unfoldable pub block_to : ℕ → Call
block_to i = hand_server g i (P.Client 1) (message 1 1 (block_is send (offer 0 (entry_for value i))))

-- server j's echo or ready
unfoldable pub saying : Stage → ℕ → Message
saying z j = message 1 1 (block_is z (offer 0 (entry_for value j)))

unfoldable pub block : Stage → ℕ → ℕ → Call
block z j i = hand_server g i (P.Server j) (saying z j)

-- server 3's echo to server 1, with no room for what goes out
unfoldable pub no_room_hand : Call
no_room_hand = to_server 1 (P.Server 3) (build (saying echo 3)) [] []

unfoldable pub ack_from : ℕ → Call
ack_from j = hand_client g 1 (P.Server j) (message 1 1 ack)

-- ---- frames of client 2's read 1

unfoldable pub read_asked : ℕ → Call
read_asked i = hand_server g i (P.Client 2) (message 2 1 ask_read)

unfoldable pub initial_from : ℕ → Call
initial_from j = hand_client g 2 (P.Server j) (message 2 1 (value_is zero_stamp (entry_for initial j)))

unfoldable pub value_from : ℕ → Call
value_from j = hand_client g 2 (P.Server j) (message 2 1 (value_is stamp (entry_for value j)))

unfoldable pub read_ended : ℕ → Call
read_ended i = hand_server g i (P.Client 2) (message 2 1 read_complete)

-- ---- reports of the write's time, server j's to server i and to client c

unfoldable pub report_to : ℕ → ℕ → Call
report_to j i = hand_server g i (P.Server j) (message 1 1 (report 1))

unfoldable pub report_for : ℕ → ℕ → Call
report_for j c = hand_client g c (P.Server j) (message 1 1 (report 1))

-- ---- the run, each part latest first

-- Client 1 begins to write; three stamps come, and it sends blocks with the time.
unfoldable pub asking : List Call
asking = stamp_from 3 ∷ stamp_from 2 ∷ stamp_from 1 ∷ stamp_asked 3 ∷ stamp_asked 2 ∷ stamp_asked 1 ∷ start_write g 1 value ∷ []

-- Client 2 begins to read, and server 1 answers with the initial value.
unfoldable pub opening : List Call
opening = initial_from 1 ∷ read_asked 1 ∷ start_read g 2 ∷ asking

-- Servers 1 to 3 echo their blocks, and each hears three echoes and sends a ready; one echo is offered without room before.
unfoldable pub echoing : List Call
echoing =
    block echo 3 3 ∷ block echo 2 3 ∷ block echo 1 3
    ∷ block echo 3 2 ∷ block echo 2 2 ∷ block echo 1 2
    ∷ block echo 3 1 ∷ no_room_hand ∷ block echo 2 1 ∷ block echo 1 1
    ∷ block_to 3 ∷ block_to 2 ∷ block_to 1 ∷ opening

-- Servers 1 and 2 hear three readies each and accept; their acks come. Server 3 has heard none.
unfoldable pub waiting : List Call
waiting =
    ack_from 2 ∷ ack_from 1
    ∷ block ready 3 2 ∷ block ready 2 2 ∷ block ready 1 2
    ∷ block ready 3 1 ∷ block ready 2 1 ∷ block ready 1 1
    ∷ echoing

-- Server 3 accepts.
unfoldable pub accepted : List Call
accepted = block ready 3 3 ∷ block ready 2 3 ∷ block ready 1 3 ∷ waiting

-- The third ack ends the write. Server 1 has told client 2; servers 2 and 3 answer its read.
unfoldable pub told : List Call
told = value_from 2 ∷ value_from 1 ∷ read_asked 3 ∷ read_asked 2 ∷ ack_from 3 ∷ accepted

-- The third value ends the read, and the servers hear of it.
unfoldable pub ended : List Call
ended = read_ended 3 ∷ read_ended 2 ∷ read_ended 1 ∷ value_from 3 ∷ told

-- The reports come last, to nobody who waits for them.
unfoldable pub calls : List Call
calls =
    report_for 3 2 ∷ report_for 3 1 ∷ report_for 2 2 ∷ report_for 2 1 ∷ report_for 1 2 ∷ report_for 1 1
    ∷ report_to 3 3 ∷ report_to 3 2 ∷ report_to 3 1 ∷ report_to 2 3 ∷ report_to 2 2 ∷ report_to 2 1 ∷ report_to 1 3 ∷ report_to 1 2 ∷ report_to 1 1 ∷ ended

-- what the read finds
unfoldable pub found : Found
found = record { stamp = stamp; digests = digests_of toy g value; bytes = some value }

-- ---- what is shown

pub record Shown : Type 0 where
  -- the theorem speaks of this run, and its hypothesis holds, to the letter too
  pub sound : Sound Z
  pub admissible : Admissible Z calls
  pub finished : Finished Z calls
  pub delivered : Delivered Z calls
  -- server 4 is false, and silent: no frame is named as its own
  pub false_server_lem : Z.faulty_server 4 ≡ true
  pub silent : (b : Party) (f : List ℕ) (p : ℕ) → At (HandedIn Z (P.Server 4) b f) calls p → ⊥
  -- a write and a read begin and end; a frame is at first answered 10
  pub writes : At (OpensWrite Z 1 1 value) calls 0
  pub reads : At (OpensRead Z 2 1) calls 7
  pub room : At (Refuses Z 10) calls 15
  pub ends : At (EndsWrite Z 1 1) calls 34
  pub completes : At (CompletesRead Z 2 1 found) calls 39
  -- so nothing is open
  pub served : Served Z calls
  -- up to the second ack it is a run, too, with client 1's write open;
  pub admissible_before : Admissible Z waiting
  pub open_before : ((run Z waiting).clients 1).client.phase ≡ F.Acking
  -- server 1's ready went to server 3 and was not handed in: the run is not finished
  pub ready_sent : Sent Z waiting (P.Server 1) (P.Server 3) (build (saying ready 1))
  pub ready_missing : (p : ℕ) → At (HandedIn Z (P.Server 1) (P.Server 3) (build (saying ready 1))) waiting p → ⊥
  pub unfinished : Finished Z waiting → ⊥
