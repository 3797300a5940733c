-- A frame handed to a server whose record is lent as bytes: the whole outcome, every byte of the lent areas. The server is the one that the bytes say. H is the
-- digest, g the parameters, me the server's number. These are definitions.
use Rattle.std.specs.Prelude.{ℕ, List, [], ◌∷◌, length, ltb, eqb}
use Rattle.std.proofs.lemmas.List.Edits.{sets}
use Rattle.area.specs.Area.{pick}
use Rattle.area.specs.Responses.{Response}
use Rattle.blocks.specs.declared.Params.{Params}
use Rattle.frame.specs.declared.Header.{Header}
use Rattle.frame.specs.declared.Party.{Party}
use Rattle.frame.specs.Refusals.{refused, answered_by, and_then, Verdict}
use Rattle.frame.specs.Params.{params_test}
use Rattle.frame.specs.Frames.{header_in, frame_test}
use Rattle.frame.specs.Messages.{number_in}
use Rattle.server_rules.specs.declared.Server.{Server}
use Rattle.server_rules.specs.State.{slot_of, reader_of, report_of}
use Rattle.server_rules.specs.Steps.{Write, Effect}
use Rattle.server_rules.specs.Tests.{room_test}
use Rattle.server_rules.specs.Delivery.{Outcome, Constructed, delivered, delivery, construction}
use Rattle.layout.specs.Left.{left_by}
use Rattle.client_rules.specs.Beginning.{length_test}
use Rattle.layout.specs.Servers.{server_size, server_bytes, server_in, slot_sets, scope_sets, report_sets}

pub record ByteOutcome : Type 0 where
  pub reply : Response ℕ
  pub area : List ℕ
  pub state : List ℕ
  pub out : List ℕ
  pub to : List ℕ

abbrev pub byte_outcome : Response ℕ → List ℕ → List ℕ → List ℕ → List ℕ → ByteOutcome
byte_outcome a area state out to = record { reply = a; area = area; state = state; out = out; to = to }

-- What a step writes of the record, as the server s is afterwards. The frame's own part: its sender's report, or the stamp, and the slot and the reader of
-- the client that it names.
unfoldable pub frame_sets : Server → Header → Party → List ℕ → List ℕ
frame_sets s h from l =
    pick (eqb h.kind 13) (report_sets l (number_in from) (report_of s (number_in from)))
    (scope_sets l h.client s.stamp (slot_of s h.client) (reader_of s h.client))

-- the stamp, and the slots of the clients whose writes ws were accepted
unfoldable pub accepted_sets : Server → List Write → List ℕ → List ℕ
accepted_sets s [] l = l
accepted_sets s (w ∷ ws) l = accepted_sets s ws (slot_sets l w.client s.stamp (slot_of s w.client))

-- both; all other bytes stay as lent
unfoldable pub effect_sets : Effect → Header → Party → List ℕ → List ℕ
effect_sets x h from l = accepted_sets x.server x.accepted (frame_sets x.server h from l)

-- the whole outcome, x being what the frame does; all bytes stay as lent where it was turned down
unfoldable pub outcome_at : Outcome → Effect → Header → Party → List ℕ → ByteOutcome
outcome_at o x h from state = byte_outcome o.reply o.area (left_by o.reply state (effect_sets x h from state)) o.out o.to

-- refusal 10, of the areas' lengths: the record's is one more line of the room test
unfoldable pub rooms_test : Params → ℕ → ℕ → ℕ → ℕ → ℕ → Verdict
rooms_test g state area initial out to = pick (ltb state server_size) (refused 10) (room_test g area initial out to)

-- the area for the record is short: refusal 10, but a lower number first
unfoldable pub short_reply : Params → ℕ → List ℕ → Response ℕ
short_reply g me f = answered_by (and_then (params_test g me g.n) (and_then (frame_test g f) (refused 10))) 0

unfoldable pub byte_delivery : (List ℕ → List ℕ) → Params → ℕ → Party → List ℕ → List ℕ → List ℕ → List ℕ → List ℕ → List ℕ → ByteOutcome
byte_delivery H g me from f area initial state out to =
    pick (ltb (length state) server_size) (byte_outcome (short_reply g me f) area state out to)
    (outcome_at (delivery H g me (server_in state) area initial from f out to) (delivered H g me (server_in state) area initial from f out to) (header_in f) from
    state)

-- ---- a fresh server

pub record ByteConstructed : Type 0 where
  pub reply : Response ℕ
  pub area : List ℕ
  pub initial : List ℕ
  pub state : List ℕ

abbrev pub byte_constructed : Response ℕ → List ℕ → List ℕ → List ℕ → ByteConstructed
byte_constructed a area initial state = record { reply = a; area = area; initial = initial; state = state }

-- a fresh record's bytes; "state and all lent bytes remain unchanged" where the call was turned down
unfoldable pub fresh_after : Response ℕ → Server → List ℕ → List ℕ
fresh_after a s state = left_by a state (sets state 0 (server_bytes s))

unfoldable pub constructed_at : Constructed → List ℕ → ByteConstructed
constructed_at x state = byte_constructed x.reply x.area x.initial (fresh_after x.reply x.server state)

-- the area for the record is short: refusal 10, unless one with a lower number applies; the initial value has length v
unfoldable pub short_fresh : Params → ℕ → ℕ → Response ℕ
short_fresh g me v = answered_by (and_then (params_test g me g.n) (and_then (length_test g v) (refused 10))) 0

unfoldable pub byte_construction : (List ℕ → List ℕ) → Params → ℕ → List ℕ → List ℕ → List ℕ → List ℕ → ByteConstructed
byte_construction H g me value area initial state =
    pick (ltb (length state) server_size) (byte_constructed (short_fresh g me (length value)) area initial state)
    (constructed_at (construction H g me value area initial) state)
