-- Two runs that begin alike, as lists of calls, latest first, in which completed writes wait until their times are vouched for (request F-9). Server 4 is
-- false, and so are all clients, which send blocks without asking for stamps. Server 2 accepts client 3's write, whose incoming time is 0. Clients 1 and 2
-- offer the time 1: at server 1, which has accepted nothing, both writes are complete and wait. In one run the reports of two servers free both in one step. In
-- the other server 1 accepts client 3's write too, and then its own time frees them, in the same step. k = 1. These are definitions.
use Rattle.std.specs.Prelude.{ℕ, true, ◌≡◌, List, [], ◌∷◌, eqb}
use Rattle.area.specs.Area.{pick}
use Rattle.blocks.specs.declared.Params.{Params}
use Rattle.frame.specs.declared.Party.TheVariants as P
use Rattle.frame.specs.Messages.{Offer, offer, Stage, send, echo, ready, message, block_is, report}
use Rattle.group_rules.specs.Coded.{entry_of}
use Rattle.server_rules.specs.State.{slot_of}
use Rattle.server_rules.specs.Steps.{Write}
use Rattle.runs.specs.World.{Setup, Sound, Call, to_server, to_client, begin_read, begin_write, run, server_effect}
use Rattle.runs.specs.Admissible.{Admissible}
use Rattle.runs.specs.Events.{Event, At}
use Rattle.witness.specs.Toy.{toy, four, setup, hand_server}

unfoldable pub g : Params
g = four 1 1

unfoldable pub initial : List ℕ
initial = 9 ∷ []

unfoldable pub Z : Setup
Z = setup toy g initial 4 (λ c. true)

-- what client c, 1 to 3, writes: a byte, with the time that it offers
unfoldable pub value : ℕ → List ℕ
value c = c ∷ []

unfoldable pub offered : ℕ → ℕ
offered c = pick (eqb c 3) 0 1

unfoldable pub offer_for : ℕ → ℕ → Offer
offer_for c j = offer (offered c) (entry_of toy g (value c) j)

-- ---- frames

unfoldable pub block_to : ℕ → ℕ → Call
block_to c i = hand_server g i (P.Client c) (message c 1 (block_is send (offer_for c i)))

-- server j's echo or ready to server i
unfoldable pub block : Stage → ℕ → ℕ → ℕ → Call
block z c j i = hand_server g i (P.Server j) (message c 1 (block_is z (offer_for c j)))

-- server j's report to server 1: client 3's write raised its time to 1
unfoldable pub report_from : ℕ → Call
report_from j = hand_server g 1 (P.Server j) (message 3 1 (report 1))

-- ---- the runs, each part latest first

-- Client c's write: servers 1 and 2 echo, and send readies.
unfoldable pub rounds : ℕ → List Call → List Call
rounds c ks =
    block ready c 1 2 ∷ block ready c 4 2
    ∷ block echo c 2 1 ∷ block echo c 1 1 ∷ block echo c 4 1
    ∷ block_to c 2 ∷ block_to c 1 ∷ ks

-- Two of the three readies that complete client c's write at server 1; the third is server 2's.
unfoldable pub readied : ℕ → List Call → List Call
readied c ks = block ready c 1 1 ∷ block ready c 4 1 ∷ ks

-- Server 2 accepts client 3's write; clients 1 and 2 write, and both writes are complete at server 1.
unfoldable pub waiting : List Call
waiting = block ready 2 2 1 ∷ readied 2 (rounds 2 (block ready 1 2 1 ∷ readied 1 (rounds 1 (block ready 3 2 2 ∷ rounds 3 []))))

-- Server 4 reports, which is not enough, and then server 2.
unfoldable pub reporting : List Call
reporting = report_from 4 ∷ waiting

unfoldable pub by_reports : List Call
by_reports = report_from 2 ∷ reporting

-- Or client 3's write is completed at server 1, too.
unfoldable pub reaching : List Call
reaching = readied 3 waiting

unfoldable pub by_own_time : List Call
by_own_time = block ready 3 2 1 ∷ reaching

-- ---- what happens

-- client c's write, as server 1 accepts it
unfoldable pub write : ℕ → Write
write c = record { client = c; sequence = 1; time = offered c; entry = entry_of toy g (value c) 1 }

-- a call to server i accepts these writes, in this order
abbrev pub AcceptsAll : ℕ → List Write → Event
AcceptsAll i l ks (to_server j from f out to) = (i ≡ j) × ((server_effect Z (run Z ks) j from f out to).accepted ≡ l)
AcceptsAll i l ks (to_client c from f lent result out to) = ⊥
AcceptsAll i l ks (begin_read c out to) = ⊥
AcceptsAll i l ks (begin_write c v out to) = ⊥

-- ---- what is shown

pub record Shown : Type 0 where
  -- the theorems speak of these runs
  pub sound : Sound Z
  pub admissible : Admissible Z by_reports × Admissible Z by_own_time
  -- server 1 has accepted nothing, and two writes are complete there
  pub time : ((run Z waiting).servers 1).server.stamp.time ≡ 0
  pub complete : ((slot_of ((run Z waiting).servers 1).server 1).blocks.complete ≡ true) × ((slot_of ((run Z waiting).servers 1).server 2).blocks.complete ≡ true)
  -- one report frees neither, the second both
  pub not_yet : At (AcceptsAll 1 []) by_reports 28
  pub freed : At (AcceptsAll 1 (write 1 ∷ write 2 ∷ [])) by_reports 29
  -- client 3's write is accepted, and then, from the lowest client again, those that its time frees
  pub reached : At (AcceptsAll 1 (write 3 ∷ write 1 ∷ write 2 ∷ [])) by_own_time 30
