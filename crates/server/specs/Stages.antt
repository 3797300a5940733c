-- How the code takes a step: stage by stage, each with what it leaves and its outbox. The entry points' promises (Delivery.antt of server_rules) do not speak
-- of stages. These are definitions.
use Rattle.std.specs.Prelude.{ℕ, ◌≤◌, ◌≡◌, List, length, Result, Ok, Err}
use Rattle.std.proofs.lemmas.List.Edits.{sets}
use Rattle.area.specs.Area.{pick}
use Rattle.area.specs.Responses.{turned_down, gives}
use Rattle.blocks.specs.declared.Params.{Params}
use Rattle.frame.specs.declared.Place.{Place}
use Rattle.frame.specs.declared.Refusal.{Refusal}
use Rattle.frame.specs.Refusals.{number_of, refused, Verdict, fine}
use Rattle.frame.specs.Params.{Bounded, largest_frame}
use Rattle.frame.specs.Messages.{Offer, Stage, Body, block_is, number_in}
use Rattle.frame.specs.Outbox.{frames, receivers, Outbox, outbox, sent, first_place, Room}
use Rattle.frame.specs.Chunks.{area_bytes}
use Rattle.server_rules.specs.declared.Slot.{Slot}
use Rattle.server_rules.specs.declared.Reader.{Reader}
use Rattle.server_rules.specs.declared.Server.{Server}
use Rattle.server_rules.specs.declared.Scope.{Scope}
use Rattle.server.specs.declared.Call.{Call}
use Rattle.server.specs.declared.Moved.{Moved}
use Rattle.server.specs.declared.Taken.{Taken}
use Rattle.server_rules.specs.Scopes.{scope_of, with_scope}
use Rattle.server_rules.specs.Tests.{sender_right, block_test}
use Rattle.server_rules.specs.Steps.{Effect, Counting, on_block}
use Rattle.server_rules.specs.Delivery.{Outcome}

-- ---- of a scope

abbrev pub slot_in : Scope → Slot → Scope
slot_in x y = record { stamp = x.stamp; slot = y; reader = x.reader }

abbrev pub reader_in : Scope → Reader → Scope
reader_in x y = record { stamp = x.stamp; slot = x.slot; reader = y }

-- the server w, which has nine slots, has this scope of client c and these readers
pub record Holds (w : Server) (c : ℕ) (s : Scope) (rs : List Reader) : Type 0 where
  pub many : length w.slots ≡ 9
  pub scope : s ≡ scope_of w c
  pub readers : rs ≡ w.readers

-- ---- a frame of a write, before anything is accepted

-- what a stage leaves: the slot, the state area and the outbox
pub record Left : Type 0 where
  pub slot : Slot
  pub area : List ℕ
  pub box : Outbox

abbrev pub left : Slot → List ℕ → Outbox → Left
left x a q = record { slot = x; area = a; box = q }

-- after a counted frame, whose frames are added to those sent before
unfoldable pub counts : Counting → Outbox → Left
counts p q = record { slot = p.slot; area = p.area; box = sent q p.sends }

-- the same with the verdict: turned down, and all as it was, or counted
-- (of a frame that reached the slot x, before any frame was sent)
pub record Handled : Type 0 where
  pub verdict : Verdict
  pub slot : Slot
  pub area : List ℕ
  pub box : Outbox

abbrev pub Counted : Type 0
Counted = Result Moved Refusal

abbrev pub handled : Slot → Counted → List ℕ → List ℕ → List ℕ → Handled
handled x (Err r) a out to = record { verdict = Err r; slot = x; area = a; box = outbox out to first_place }
handled x (Ok m) a out to = record { verdict = fine; slot = m.slot; area = a; box = outbox out to m.place }

unfoldable pub handled_by : Verdict → Slot → List ℕ → Counting → Outbox → Handled
handled_by (Err r) x a p q = record { verdict = Err r; slot = x; area = a; box = q }
handled_by (Ok _) x a p q = record { verdict = fine; slot = p.slot; area = p.area; box = sent q p.sends }

-- refusal 11, or what v says, of a frame with the body b
unfoldable pub sent_by : Call → Body → Verdict → Verdict
sent_by k b v = pick (sender_right k.params k.from k.header.client b) v (refused 11)

-- the frame k, of the stage z and with the offer o, of the write whose slot is x
unfoldable pub block_frame : (List ℕ → List ℕ) → Call → Slot → List ℕ → Stage → Offer → Outbox → Handled
block_frame H k x a z o q =
    handled_by (sent_by k (block_is z o) (block_test H k.params k.me x (number_in k.from) k.header.sequence z o)) x a
    (on_block H k.params k.me a k.header.client x (number_in k.from) z o) q

-- ---- a server

-- what a stage leaves of a server
pub record Progress : Type 0 where
  pub server : Server
  pub area : List ℕ
  pub box : Outbox

abbrev pub progress : Server → List ℕ → Outbox → Progress
progress s a q = record { server = s; area = a; box = q }

-- after an effect, whose frames are added to those sent before
unfoldable pub moved : Effect → Outbox → Progress
moved x q = record { server = x.server; area = x.area; box = sent q x.sends }

-- what the stages ask: the state area is whole, c is a client, and m more frames have room
pub record Lent (g : Params) (c area : ℕ) (p : Place) (m out to : ℕ) : Type 0 where
  pub bounded : Bounded g
  pub client_low : 1 ≤ c
  pub client_high : c ≤ 8
  pub whole : area_bytes ≤ area
  pub room : Room p m (largest_frame g) out to

-- ---- a frame that opened, the lent areas being long enough

-- the outcome for server s of a step that was turned down, or left x of client c's scope
abbrev pub outcome_in : Server → ℕ → Result Taken Refusal → List ℕ → List ℕ → List ℕ → Outcome
outcome_in s c (Err r) area out to = record { reply = turned_down (number_of r); server = s; area = area; out = out; to = to }
outcome_in s c (Ok x) area out to = record { reply = gives x.place.count; server = with_scope s c x.scope; area = area; out = out; to = to }

-- the outcome of a step
unfoldable pub stepped : Effect → List ℕ → List ℕ → Outcome
stepped x out to = record {
  reply = gives (length x.sends);
  server = x.server;
  area = x.area;
  out = sets out 0 (frames x.sends);
  to = sets to 0 (receivers x.sends);
}

-- turned down by one of the tests 11 to 14, or a step
unfoldable pub answered : Verdict → Server → List ℕ → Effect → List ℕ → List ℕ → Outcome
answered (Err r) s a x out to = record { reply = turned_down (number_of r); server = s; area = a; out = out; to = to }
answered (Ok _) s a x out to = stepped x out to
