-- Whether a frame handed to a client is turned down: the tests of document 01's numbers 3 and 10 to 14, and all tests in the order of
-- their numbers. H is the digest, g the parameters, me the client's number. These are definitions.
use Rattle.std.specs.Prelude.{ℕ, Bool, true, false, not, ◌&&◌, List, length, ltb, eqb, Ok, Err}
use Rattle.area.specs.Area.{pick}
use Rattle.blocks.specs.declared.Params.{Params}
use Rattle.frame.specs.declared.Party.{Party}
use Rattle.frame.specs.declared.Stamp.{Stamp}
use Rattle.frame.specs.Frames.{Opened}
use Rattle.frame.specs.Refusals.{and_then, refused, Verdict, fine}
use Rattle.frame.specs.Params.{client_frames, out_room, to_room, params_test}
use Rattle.frame.specs.Stamps.{last_client}
use Rattle.frame.specs.Messages.{Entry, Body, get_stamp, ack, ask_read, read_complete, stamp_is, block_is}
use Rattle.frame.specs.Messages.{value_is, report, Message, number_in, from_server, Judged, bad, judged_by, after}
use Rattle.frame.specs.Frames.{opened, message_in}
use Rattle.frame.specs.Chunks.{rows_bytes}
use Rattle.group_rules.specs.Coded.{fit_test}
use Rattle.client_rules.specs.declared.Client.{Client}
use Rattle.client_rules.specs.declared.Phase.{Phase}
use Rattle.client_rules.specs.State.{asking, acking, reading, writing, row_of, heard_of, report_of}
use Rattle.client_rules.specs.Rows.{used, has_stamp}

-- refusal 10, of the lengths of the out and to areas: "The client's largest need is now n frames" (request F-4)
unfoldable pub send_room : Params → ℕ → ℕ → Verdict
send_room g out to =
    pick (ltb out (out_room g (client_frames g))) (refused 10)
    (pick (ltb to (to_room (client_frames g))) (refused 10)
    fine)

-- refusal 10, of all lent areas: "others their full content"
unfoldable pub room_test : Params → ℕ → ℕ → ℕ → ℕ → Verdict
room_test g area result out to =
    pick (ltb area rows_bytes) (refused 10)
    (pick (ltb result g.size) (refused 10)
    (send_room g out to))

-- refusal 3: the lent value of an open write is L long; with no write open it is not looked at
unfoldable pub value_test : Params → Phase → ℕ → Verdict
value_test g p v = pick (writing p && not (eqb v g.size)) (refused 3) fine

-- refusal 11: only stamps, acks, values and reports go to clients
unfoldable pub answers : Body → Bool
answers get_stamp = false
answers ack = true
answers ask_read = false
answers read_complete = false
answers (stamp_is T) = true
answers (block_is z o) = false
answers (value_is x e) = true
answers (report T) = true

-- refusal 11: a frame for a client names it; "The owner test of 11 doesn't apply to a client receiving kind 13."
unfoldable pub owner_right : ℕ → ℕ → Body → Bool
owner_right me c get_stamp = eqb c me
owner_right me c ack = eqb c me
owner_right me c ask_read = eqb c me
owner_right me c read_complete = eqb c me
owner_right me c (stamp_is T) = eqb c me
owner_right me c (block_is z o) = eqb c me
owner_right me c (value_is x e) = eqb c me
owner_right me c (report T) = true

-- refusal 12: "old, repeated or not awaited"
unfoldable pub awaited : Bool → Verdict
awaited b = pick b fine (refused 12)

-- refusals 12 and 14, of a value for read q from server j: "of kind 11, each whose stamp is not kept from that server"
abbrev pub kept_test : (List ℕ → List ℕ) → Client → ℕ → ℕ → Stamp → Entry → Verdict
kept_test H s j q x e =
    and_then (awaited (reading s.phase && (eqb q s.reads && not (has_stamp (row_of s j).stamps (used (row_of s j)) x))))
    (fit_test H e j)

module _ (H : List ℕ → List ℕ) (g : Params) (me : ℕ) where
  -- refusals 12 and 14, of a frame of operation q from server j. Stamps count only in a write's first part, acks only in its second, each server's
  -- first. "A kind 13 that isn't higher is 12."
  unfoldable pub order_test : Client → ℕ → ℕ → Body → Verdict
  order_test s j q get_stamp = fine
  order_test s j q ack = awaited (acking s.phase && (eqb q s.writes && not (heard_of s j)))
  order_test s j q ask_read = fine
  order_test s j q read_complete = fine
  order_test s j q (stamp_is T) = awaited (asking s.phase && (eqb q s.writes && not (heard_of s j)))
  order_test s j q (block_is z o) = fine
  order_test s j q (value_is x e) = kept_test H s j q x e
  order_test s j q (report T) = awaited (ltb (report_of s j) T)

  -- refusals 11 to 14: from a server 1 to n, of a kind for clients, of the right owner
  unfoldable pub message_test : Client → Party → Message → Verdict
  message_test s from m =
      pick (from_server g from && (answers m.body && owner_right me m.client m.body)) (order_test s (number_in from) m.sequence m.body) (refused 11)

  -- all of them: the lowest number, or what the frame says
  unfoldable pub judge_opened : Opened → Verdict → Client → Party → List ℕ → Judged
  judge_opened (Err r) room s from f = bad r
  judge_opened (Ok h) room s from f = judged_by (and_then room (message_test s from (message_in g h f))) (message_in g h f)

  unfoldable pub judge : Client → List ℕ → List ℕ → Party → List ℕ → List ℕ → List ℕ → List ℕ → Judged
  judge s area v from f result out to =
      after (and_then (params_test g me last_client) (value_test g s.phase (length v)))
      (judge_opened (opened g f) (room_test g (length area) (length result) (length out) (length to)) s from f)
