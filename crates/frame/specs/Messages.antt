-- Messages: what frames say, to whom they go, and what is left of a frame after the tests. Assumes nothing: these are definitions.
use Rattle.frame.specs.Refusals.{Verdict}
use Rattle.std.specs.Prelude.{ℕ, zero, suc, ◌≤◌, ◌<◌, Bool, true, false, ◌&&◌, ◌≡◌, List, [], ◌∷◌, length, leb, Ok, Err}
use Rattle.blocks.specs.declared.Params.{Params}
use Rattle.frame.specs.declared.Stamp.{Stamp}
use Rattle.frame.specs.declared.Party.{Party}
use Rattle.frame.specs.declared.Party.TheVariants as P
use Rattle.frame.specs.declared.Refusal.{Refusal}
use Rattle.frame.specs.Params.{listed, width}
use Rattle.frame.specs.Stamps.{parts_agree, last_client}

-- ---- what a frame says

-- a digest list and a block
pub record Entry : Type 0 where
  pub digests : List ℕ
  pub block : List ℕ

abbrev pub entry : List ℕ → List ℕ → Entry
entry d b = record { digests = d; block = b }

-- what a write is about: the time it goes by, and its digest list and block
pub record Offer : Type 0 where
  pub time : ℕ
  pub entry : Entry

abbrev pub offer : ℕ → Entry → Offer
offer T e = record { time = T; entry = e }

-- the three steps of a broadcast
pub data Stage : Type 0 where
  send echo ready : Stage

-- the kinds of document 01's table, "Frames", with what their bodies hold; request F-4: "kinds 3, 4 and 5 carry the time
-- (8 bytes) before the digest list", "Kinds 6, 7 and 8 are retired"; request F-9: "kind 13 (body: its time, 8 bytes ..)"
pub data Body : Type 0 where
  -- kinds 1, 9, 10, 12: nothing
  get_stamp ack ask_read read_complete : Body
  -- kind 2: time
  stamp_is : ℕ → Body
  -- kinds 3, 4, 5: time; digest list, block
  block_is : Stage → Offer → Body
  -- kind 11: time, writer and write sequence; digest list, block
  value_is : Stamp → Entry → Body
  -- 13: time
  report : ℕ → Body

-- the client names the operation's owner
pub record Message : Type 0 where
  pub client : ℕ
  pub sequence : ℕ
  pub body : Body

abbrev pub message : ℕ → ℕ → Body → Message
message c q b = record { client = c; sequence = q; body = b }

-- the block that a message carries, if any
abbrev pub Carries : Body → List ℕ → Type 0
Carries get_stamp b = ⊥
Carries ack b = ⊥
Carries ask_read b = ⊥
Carries read_complete b = ⊥
Carries (stamp_is T) b = ⊥
Carries (block_is z o) b = Path (List ℕ) o.entry.block b
Carries (value_is s e) b = Path (List ℕ) e.block b
Carries (report T) b = ⊥

-- ---- what can be said in a frame

-- n digests of 32 bytes, and a block of b bytes
pub record Sized (g : Params) (e : Entry) : Type 0 where
  pub list_is : length e.digests ≡ listed g
  pub block_is_lem : length e.block ≡ width g

abbrev pub FormedBody : Params → Body → Type 0
FormedBody g get_stamp = Unit {0}
FormedBody g ack = Unit {0}
FormedBody g ask_read = Unit {0}
FormedBody g read_complete = Unit {0}
FormedBody g (stamp_is T) = T < 18446744073709551616
FormedBody g (block_is z o) = Sized g o.entry × (o.time < 18446744073709551616)
FormedBody g (value_is s e) =
    Sized g e × (s.time < 18446744073709551616) × (s.writer ≤ 8) × (s.sequence < 4294967296) × (parts_agree s.time s.writer s.sequence ≡ true)
FormedBody g (report T) = T < 18446744073709551616

-- a message within the bounds of its fields
pub record Formed (g : Params) (m : Message) : Type 0 where
  pub client_low : 1 ≤ m.client
  pub client_high : m.client ≤ 8
  pub sequence_low : 1 ≤ m.sequence
  pub sequence_high : m.sequence < 4294967296
  pub body : FormedBody g m.body

-- ---- whom it goes to

-- a frame to be sent: its receiver and what it says
pub record Sending : Type 0 where
  pub receiver : Party
  pub says : Message

abbrev pub sending : Party → Message → Sending
sending p m = record { receiver = p; says = m }

-- to servers j to j + m - 1
unfoldable pub to_from : (ℕ → Message) → ℕ → ℕ → List Sending
to_from f j zero = []
to_from f j (suc m) = sending (P.Server j) (f j) ∷ to_from f (suc j) m

-- "To all" means servers 1 to n in that order, the sender included
unfoldable pub to_all : Params → (ℕ → Message) → List Sending
to_all g f = to_from f 1 g.n

-- to clients c to c + m - 1
unfoldable pub clients_from : Message → ℕ → ℕ → List Sending
clients_from m c zero = []
clients_from m c (suc k) = sending (P.Client c) m ∷ clients_from m (suc c) k

-- "clients 1 to 8"
unfoldable pub to_clients : Message → List Sending
to_clients m = clients_from m 1 last_client

-- the number of a party, and whether it is one of the servers
abbrev pub number_in : Party → ℕ
number_in (P.Client c) = c
number_in (P.Server j) = j

abbrev pub from_server : Params → Party → Bool
from_server g (P.Client c) = false
from_server g (P.Server j) = leb 1 j && leb j g.n

-- ---- what the tests leave of a frame: the lowest number of a refusal, or what the frame says

pub data Judged : Type 0 where
  bad : Refusal → Judged
  good : Message → Judged

abbrev pub judged_by : Verdict → Message → Judged
judged_by (Ok _) m = good m
judged_by (Err r) m = bad r

abbrev pub after : Verdict → Judged → Judged
after (Ok _) x = x
after (Err r) x = bad r
